-- patterns, which keep some cells of a filling, and the fillings that agree with them
pub mod Patterns
-- the minimal list of a rule at a node
pub mod Minimal
-- what holds of each pattern of a minimal list
pub mod Claims
-- definitions for finding the list: numbers of fillings, tables of outcomes, walks, and the states of loops
pub mod finding
