-- the types of syntax trees and of what a script has defined so far
pub mod Tree
-- the positions that vectors stand for
pub mod Vectors
-- what the words, numbers and vectors of a query stand for
pub mod Parts
-- queries from their syntax trees, and the bounds on their numbers and vectors
pub mod Queries
-- lemmas on these definitions, for other crates
pub mod lemmas
