pub mod ComparisonLaws
pub mod QueryLaws
