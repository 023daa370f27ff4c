-- The check of answers, one after the other.
pub mod Judged
