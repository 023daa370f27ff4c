-- positions, and which of them are in range, that is, can be held by code
pub mod Place
-- cells: a cell is a position and the number of a node
pub mod Cells
-- cell order: by z, then y, then x, then the node
pub mod Order
-- the cells of a list in cell order, each once
pub mod InOrder
-- boxes of positions, and the numbers of a box's positions
pub mod Boxes
-- finite sets of positions in range
pub mod Regions
-- definitions for the loops that merge and grow regions
pub mod listing
-- lemmas on these definitions, with their proofs
pub mod lemmas
