pub mod Verdicts
pub mod Certifying
pub mod Lifting
pub mod Pairs
pub mod Inverting
