pub mod Numbers
pub mod Outcomes
pub mod Walks
pub mod States
