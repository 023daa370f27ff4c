pub mod WholeNumbers
pub mod Totals
