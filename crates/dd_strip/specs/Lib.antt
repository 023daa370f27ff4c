-- strips, and which strips and weights a question about a rule may name
pub mod Strips
