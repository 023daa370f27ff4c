pub mod Comparing
pub mod LessProduct
pub mod OddDivisors
pub mod Quick
