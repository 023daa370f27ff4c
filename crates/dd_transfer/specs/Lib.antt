-- states, slices and edges of a transfer graph
pub mod Graphs
-- windows of a strip, and which of them the rule keeps as edges of the graph
pub mod Windows
-- the transfer graph of a rule over a strip
pub mod Transfers
-- what certifies the least weight per position along a closed walk of the transfer graph
pub mod Certificates
-- the slices of a look, and the states and windows that they make; a look gives each cell a symbol, or none
pub mod Slices
-- how the slices of a look relate to the transfer graph
pub mod Laws
-- formulas over a window's symbols that say whether the rule is true at the cells of the window's tested slice
pub mod placing
