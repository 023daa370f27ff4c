-- the sample scripts, and the words that give their numbers
pub mod Sample
