pub mod Soundness
pub mod Findings
pub mod Numbers
pub mod Falses
