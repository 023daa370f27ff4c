-- linear programs, values of their columns, duals, and which values are best
pub mod Programs
-- dictionaries, and one pivot of a dictionary
pub mod Dictionaries
-- the run by Bland's rule, with limits on its pivots and its numbers
pub mod Runs
-- how a run stops, and what holds for its dictionaries
pub mod Laws
-- tables: dictionaries as the code keeps them
pub mod table
-- lemmas on these definitions, with their proofs
pub mod lemmas
