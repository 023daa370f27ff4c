-- exact fractions
pub mod Exact
-- sums, products and quotients whose intermediate numbers fit
pub mod Checked
-- the order of exact fractions
pub mod Order
-- the laws of exact fractions
pub mod Laws
-- greatest common divisors
pub mod Divisor
-- lemmas on these definitions, with their proofs
pub mod lemmas
