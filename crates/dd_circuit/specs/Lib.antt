-- signals, gates, circuits and their values
pub mod Circuits
-- the values of all variables of a circuit
pub mod Valuations
-- lemmas on these definitions, with their proofs, for other crates to cite
pub mod lemmas
