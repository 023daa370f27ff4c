-- wirings: for each cell, the signals that say which symbol it has
pub mod Wiring
-- the gates of an expansion, which is a formula without variables
pub mod Compiling
-- the signals of the cells that a rule reads, and what the signal of the rule's gates says
pub mod RuleSignals
-- templates: a rule and one of its nodes, with gates that are placed at one cell after another
pub mod Templates
-- the gates of the value of an automaton
pub mod ValueGates
-- the signals of the cells that an automaton reads, and what the signals of the automaton's value say
pub mod ValueSignals
-- the gates of an automaton's value, and what they say wherever they stand in a circuit
pub mod Valued
-- what the gates of a composition require, and what holds once the gates of the inner values are there
pub mod composing
-- the gates of templates, and how they are placed at cells
pub mod placing
-- lemmas on these definitions, with their proofs, for other crates to cite
pub mod lemmas
