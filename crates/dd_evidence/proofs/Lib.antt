pub mod Tiles
pub mod Places
pub mod NodeLists
pub mod Lists
pub mod Starred
pub mod Patterns
