pub mod EqualSizes
pub mod Extents
pub mod InstanceCounts
pub mod Parts
pub mod Sizes
pub mod Unions
