pub mod Following
pub mod Analysis
