pub mod Parts
pub mod OneTree
pub mod Texts
