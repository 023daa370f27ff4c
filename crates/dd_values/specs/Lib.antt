-- limits that more than one crate uses
pub mod Bounds
-- the ranges of the limits on the work for one answer
pub mod Ranges
-- truth values of numbered variables
pub mod Variables
-- counts of the faults of sources and sinks, and of the calls and proposals of engines
pub mod Counts
-- how a recursive type may contain lists and boxes of its own values
pub mod formers
-- lemmas on truth values, numbers and lists, for all crates
pub mod lemmas
