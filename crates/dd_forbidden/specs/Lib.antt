-- the breaking fillings of a rule
pub mod Breaking
-- the fillings that the search lists, and the formula that it evaluates
pub mod listing
-- lemmas on these definitions, with their proofs
pub mod lemmas
