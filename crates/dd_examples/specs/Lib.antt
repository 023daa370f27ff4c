-- the first lines of right answers to a script's queries
pub mod Lines
-- outputs whose answers are certificates; what a certificate claims is true
pub mod Checked
-- a rule and a configuration made without a script
pub mod Squares
-- a configuration that is given as a function: 1 at the origin, and 0 everywhere else
pub mod Lone
