-- whole outputs, and which bytes are well formed
pub mod Outputs
-- the offset at which bytes that aren't well formed are refused
pub mod Offsets
-- the readers as functions; wherever a reader stops, it gives a text that completes what was read
pub mod reading
