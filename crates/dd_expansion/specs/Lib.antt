-- terms and balls
pub mod Terms
-- the truth of a formula, given the symbols of cells
pub mod Truth
-- the reads of a formula: the cells whose symbols it asks for
pub mod Reads
-- the expansion of a formula: a formula without variables
pub mod Expansion
-- the truth of expansions, their leaves and their sizes
pub mod Leaves
-- well-formed formulas, and limits on their sizes
pub mod Limits
-- cells of Z^d
pub mod Placed
-- definitions for private functions: atoms, budgets, and nearness to the origin
pub mod expanding
-- lemmas on these definitions, with their proofs
pub mod lemmas
