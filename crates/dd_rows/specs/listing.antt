pub mod Levels
pub mod Formulas
pub mod Views
pub mod Sparse
pub mod Shown
pub mod Repeats
