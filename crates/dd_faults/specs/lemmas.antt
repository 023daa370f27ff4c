pub mod Nothing
pub mod Layers
pub mod Periods
pub mod Repeats
