-- which answers to questions are right
pub mod Right
-- which answers about least densities and discharging are right
pub mod Bounds
-- which answers about the least weight of a fundamental box are right
pub mod Tori
-- which answers about conjugacies are right
pub mod Conjugacies
-- the four questions of a conjugacy, answered in turn
pub mod joining
-- what all right answers to a question have in common
pub mod Laws
-- which decisions an output can hold
pub mod Writable
-- for which questions engines are asked, and how this changes the roster, the list of engines
pub mod Asking
