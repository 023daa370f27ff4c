-- the types of syntax trees
pub mod Tree
-- the table of queries
pub mod Table
-- the first words of commands, and their order
pub mod Heads
-- the tokens of a command after its `%`
pub mod Commands
-- scripts, and which command is the first that is not well formed
pub mod Scripts
-- the readers of all these, as functions
pub mod reading
-- lemmas on these definitions, for other crates
pub mod lemmas
