-- trails: the literals that are true, those that are false, and which variables have a value
pub mod Trails
-- why each literal of a trail is true
pub mod Reasons
-- what unit propagation finds when it looks at clauses, and how it extends a trail
pub mod Propagation
-- the copy of the clauses that propagation reads
pub mod Copies
-- lemmas on trails and on what a clause forces, with their proofs
pub mod lemmas
-- the list in which a trail records which literals are false, and how the copy of the clauses is made and read
pub mod keeping
