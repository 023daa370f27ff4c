pub mod Truths
pub mod Walking
pub mod Cycles
pub mod Chains
