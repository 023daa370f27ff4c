pub mod Values
pub mod Copying
