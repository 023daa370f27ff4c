pub mod Shown
pub mod Means
