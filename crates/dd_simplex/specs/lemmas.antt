pub mod Dictionaries
