-- which answers to the queries of a script are certificates
pub mod Certificates
-- what the answers to the queries of a script claim
pub mod Claims
-- what the verdict on an answer says
pub mod Verdicts
-- what a YES says about any configuration
pub mod Lifted
-- what a CONJUGATE says about any configuration
pub mod Inverses
