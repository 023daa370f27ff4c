-- which answers to questions are certificates, and what they claim
pub mod Certificates
-- Which answers are certificates for a box question, or for a question that comes down to several. A box question has a premise, which is a rule, and
-- a goal, which is a property of a position: for instance, that another rule is broken there. It asks whether no configuration that obeys the premise
-- has the goal at any position.
pub mod Evidence
-- what answers claim, for each kind of question that is not about weights
pub mod Holding
-- which answers about least densities and discharging are certificates, and what they claim
pub mod Bounds
-- which answers about the least weight on a torus are certificates, and what they claim
pub mod Tori
-- when the numbers of an answer give a configuration
pub mod Given
-- the facts about the goals of a question, which are used to prove that the claims of its certificates are true
pub mod GoalFacts
