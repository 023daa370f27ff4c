pub mod Sums
pub mod MergeLaws
pub mod GrowthLaws
