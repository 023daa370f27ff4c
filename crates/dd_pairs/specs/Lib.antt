-- comparisons: the parts of a query about an image or a conjugacy
pub mod Comparisons
-- the limits that pairs and the questions about them exceed
pub mod Faults
-- what the program makes from comparisons
pub mod Made
-- the goal that the automata of a pair differ, and the question about a conjugacy, which has four such goals
pub mod Goals
-- which comparisons a query of a script consists of, and which pairs it asks about
pub mod Queries
-- lemmas on these definitions, for other crates
pub mod lemmas
