-- The guarded formula of a rule: the rule is true at a cell, and the cell's symbol is one that its node allows. A cell is a position of Z^d together
-- with one of its nodes.
pub mod Guarded
-- the automata of the pairs
pub mod Pairs
-- where an image breaks a rule, and where two automata, applied one after the other, change a symbol
pub mod Images
-- why a pair of automata is refused
pub mod Refusals
-- lemmas on these definitions, with their proofs
pub mod lemmas
