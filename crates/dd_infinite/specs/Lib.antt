-- configurations as functions, and what it takes for an answer to exclude a goal from them, or to show that two automata are
-- inverse maps on them
pub mod Functions
