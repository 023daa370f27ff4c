pub mod Names
pub mod Refuting
pub mod Renaming
