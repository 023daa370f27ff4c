pub mod Steps
pub mod Formed
pub mod Near
pub mod Sizes
pub mod Faults
pub mod Cases
