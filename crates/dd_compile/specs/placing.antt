pub mod Own
pub mod Placed
