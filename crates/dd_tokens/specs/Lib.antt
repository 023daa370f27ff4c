-- what blanks, comments and tokens are, and the list of tokens of a script
pub mod Format
