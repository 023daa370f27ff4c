pub mod Fractions
pub mod Walks
pub mod Answers
pub mod Shown
