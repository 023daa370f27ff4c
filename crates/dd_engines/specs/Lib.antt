-- how a list of engines changes when its engines are asked in turn, and what it means for the list to be kept
pub mod Rounds
-- which proposals and outcomes are right, how a proposal changes an engine's count of proposals, and how a round ends
pub mod Proposals
-- the counts of an engine
pub mod Tallies
-- how contracts see a roster
pub mod Rosters
-- refutations by a single step
pub mod SingleSteps
-- a walk through assignments
pub mod Walks
-- when a walk repeats itself
pub mod Repeats
-- the greatest number of flips that a walker makes
pub mod Walkers
-- what asking one engine shows
pub mod asking
-- what follows by unit propagation from no assumptions, and which part of it a conflict needs
pub mod propagation
-- how the code walks: counts of true literals, occurrence lists, and the landmark, an earlier assignment by which a cycle is noticed
pub mod walking
