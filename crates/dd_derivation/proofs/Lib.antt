pub mod Proper
pub mod Whole
