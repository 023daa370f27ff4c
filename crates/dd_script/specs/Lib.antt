-- types of other crates: syntax trees, the contexts of commands, faults and limits
pub mod Tree
-- the parts of a script
pub mod Parts
-- what the queries ask, and which limit on work a question exceeds
pub mod Questions
-- what holds of every script
pub mod Kept
-- what each command changes, and the first fault of a text
pub mod Walk
-- what holds of each question of a script
pub mod Asking
-- which bytes spell a script, and how all others are refused
pub mod Scripts
-- drafts: unfinished scripts, made by the commands read so far
pub mod Drafts
