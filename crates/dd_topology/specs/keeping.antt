pub mod Kept
pub mod Growth
