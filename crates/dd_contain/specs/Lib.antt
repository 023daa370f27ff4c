-- Decisions: the least radius tried that suffices, else the first periods that show the goal, else unknown. A radius suffices if no admissible
-- filling of its box has the goal at the origin. Periods show the goal if some configuration of these periods lives in the premise's subshift (obeys
-- the premise at every cell) and has the goal at the origin.
pub mod Decided
-- which radii suffice, and which periods show the goal
pub mod Questions
-- the equality of two rules
pub mod Equal
-- what a decision does with the engines of a roster
pub mod Engines
-- the law of the three answers
pub mod Laws
-- how far the search has come, what it may ask, and what it does to a roster
pub mod searching
