-- The readers as functions. Wherever a reader stops, it gives a text that completes what was read.
pub mod Stops
pub mod Forms
pub mod Lists
pub mod Stars
pub mod Periods
pub mod Grammar
pub mod Whole
pub mod Seen
