pub mod Residues
pub mod TileSizes
pub mod TileLaws
pub mod BoxLaws
pub mod FillingLaws
pub mod PeriodsLaws
