pub mod Nodes
pub mod PartLaws
pub mod LivesLaws
pub mod Reaching
pub mod SeenLaws
pub mod CaseCounts
