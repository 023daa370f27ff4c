pub mod Readers
pub mod Atoms
pub mod Formulas
pub mod Laws
