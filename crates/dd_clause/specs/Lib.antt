-- literals, clauses, lists of clauses, and what it means to satisfy a list of clauses
pub mod Clauses
-- lemmas on these definitions, with their proofs
pub mod lemmas
