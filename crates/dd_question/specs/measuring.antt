pub mod Measured
pub mod Vectors
