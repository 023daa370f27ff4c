-- copies of well-formed automata
pub mod Formed
