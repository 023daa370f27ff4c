pub mod Trails
pub mod Reasons
pub mod Forcing
