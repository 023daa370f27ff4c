pub mod Analysis
pub mod Deleting
pub mod Search
pub mod Marking
