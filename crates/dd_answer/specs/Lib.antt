-- which answers to the queries of a script are right
pub mod Right
-- for which queries engines are asked
pub mod Asking
