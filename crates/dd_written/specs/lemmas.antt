pub mod Options
pub mod Many
pub mod Rounds
pub mod Names
