pub mod Layers
pub mod SameTruth
pub mod SettledLaws
