-- cycles of transfer graphs, their means, and what shows that a mean is the least one
pub mod Means
-- the graph as a list of edges, its walks, and the table of the least weights of walks by length
pub mod table
-- lemmas on these definitions, with their proofs
pub mod lemmas
