pub mod KeptTests
pub mod GuardLaws
pub mod PairLaws
pub mod Claims
