pub mod Members
pub mod Booleans
pub mod Results
pub mod Lists
pub mod Numbers
