-- sums over boxes of positions
pub mod Sums
-- boxes of every side length at every position, their fillings and their weight
pub mod Sides
-- how much a box may receive from outside
pub mod Boundaries
-- what a bound says of all boxes
pub mod Lifted
-- lemmas on these definitions, for other crates
pub mod lemmas
