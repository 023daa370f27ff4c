pub mod Merge
pub mod Growth
