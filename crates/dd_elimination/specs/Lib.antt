-- when an elimination is right, and what the clauses and steps of the reduced list become in a refutation of the whole list
pub mod Reductions
-- other numbers for variables
pub mod Renaming
