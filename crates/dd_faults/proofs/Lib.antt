pub mod Noting
pub mod Repeats
pub mod Configurations
