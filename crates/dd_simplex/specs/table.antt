pub mod Choices
pub mod Lines
pub mod Standing
pub mod Steps
pub mod Values
