-- what reads and writes do to the bytes left in a source and held by a sink, and counts that stop at 2^64 - 1
pub mod Bytes
-- what a source and a sink in memory hold, how they were set up, how many of their calls were made, and how many failed
pub mod Memory
-- lemmas on these definitions, with their proofs
pub mod lemmas
