pub mod Layers
pub mod Making
