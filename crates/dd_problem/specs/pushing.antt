pub mod Pushed
pub mod Numbered
pub mod Near
pub mod GoalFacts
