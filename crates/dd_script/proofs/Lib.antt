pub mod Growing
pub mod Kept
pub mod Walking
pub mod Asking
