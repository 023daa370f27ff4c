pub mod Listed
pub mod Asking
