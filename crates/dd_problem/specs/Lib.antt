-- which cells have inputs (variables that say which symbols cells have), and in which order
pub mod Layouts
-- the clauses over inputs and over the signals of gates
pub mod Clauses
-- the gates that say whether the values of two automata at a cell are different
pub mod Differing
-- a circuit and its clauses, as they grow
pub mod Encodings
-- the clauses of a whole question on a box and on a torus
pub mod Problems
-- the symbols of cells, and when they are read from an assignment
pub mod Symbols
-- when clauses express what a question asks
pub mod Shows
-- the clauses as the code makes them, over any inputs; the inputs of the cells of a box and of a torus; the facts about goals that proofs need
pub mod pushing
-- lemmas on these definitions, with their proofs
pub mod lemmas
