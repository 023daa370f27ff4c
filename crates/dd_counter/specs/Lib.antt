-- the gates that say how much the first cells weigh
pub mod Counter
-- the clauses that ask for a living configuration whose weight is below a bound, and what it means for clauses to ask for one
pub mod Weights
-- living configurations, their least weight, and when the result of the search for the least weight is right
pub mod Least
-- the laws of the least weight: what a refutation of the clauses in `Weights` says about the weights of all living configurations, and facts about
-- these clauses
pub mod Laws
-- what the search for a lighter configuration returns
pub mod searching
-- lemmas on these definitions, with their proofs
pub mod lemmas
