pub mod Ascending
pub mod Counting
