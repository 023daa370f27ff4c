pub mod Numbers
pub mod Valued
pub mod Denied
pub mod Keeping
pub mod Copying
