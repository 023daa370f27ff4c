-- the texts of answers
pub mod Text
-- the answers that an output can hold
pub mod Bounds
