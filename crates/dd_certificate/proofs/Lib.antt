mod Digits
mod Growing
pub mod Writable
