pub mod Divisors
pub mod FractionFacts
pub mod Laws
pub mod Lowest
pub mod OrderLaws
pub mod Results
pub mod Ring
