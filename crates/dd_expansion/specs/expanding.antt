pub mod Atoms
pub mod Near
pub mod Budget
