pub mod Forms
pub mod Vectors
pub mod Commands
pub mod Parts
