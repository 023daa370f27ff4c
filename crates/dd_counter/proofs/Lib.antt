pub mod Members
pub mod Whole
pub mod Light
