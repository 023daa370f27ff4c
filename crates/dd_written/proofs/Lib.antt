pub mod Digits
pub mod Layers
pub mod Sound
pub mod Complete
