pub mod Extensions
pub mod Saying
