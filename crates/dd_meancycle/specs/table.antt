pub mod Walks
pub mod Lists
pub mod Levels
pub mod Rises
pub mod LeastMean
