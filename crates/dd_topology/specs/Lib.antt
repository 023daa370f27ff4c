-- lists of distinct names
pub mod Naming
-- moves along edges, over all of Z^3
pub mod Topology
-- adjacency and balls
pub mod Balls
-- topologies: a dimension, nodes, names of labels, and edges
pub mod Grid
-- the built-in topologies
pub mod Builtin
-- which symbols the nodes allow
pub mod Sets
-- how topologies and alphabets are stored, and one round of the search for a ball
pub mod keeping
-- lemmas on these definitions, with their proofs
pub mod lemmas
