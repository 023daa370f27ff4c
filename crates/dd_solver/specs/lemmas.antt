pub mod Right
pub mod Forcing
pub mod Known
pub mod Steps
pub mod Renumbering
