pub mod Pairing
pub mod Testing
pub mod Making
