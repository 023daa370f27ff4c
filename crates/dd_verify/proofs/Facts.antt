-- The claim of a certificate for a box question or a conjugacy is true if the question is sound (its parts fit together, and it exceeds no limit) and
-- the facts about its goals hold.
use Rattle.dd_values.specs.declared.limits.Limits.{Limits}
use Rattle.dd_certificate.specs.declared.answer.Answer.{Answer}
use Rattle.dd_question.specs.Questions.{Asked, IsSoundAsked}
use Rattle.dd_verify.specs.{Certificates.IsCertificateOf, Certificates.ClaimOf, GoalFacts.HaveGoalFacts, GoalFacts.box_facts, GoalFacts.conjugacy_facts}
use Rattle.dd_verify.proofs.{Claiming.box_claims, PartForms.conjugacy_claims}

pub claims_by_facts : (l : Limits) (k : Asked) (a : Answer) → IsSoundAsked l k → HaveGoalFacts k → IsCertificateOf l k a → ClaimOf k a
claims_by_facts l _ a sound (box_facts {x = x} {g = g} gates) h = box_claims l x g a sound.0 sound.1.goal gates h
claims_by_facts l _ a sound (conjugacy_facts {c = c} gates) h = conjugacy_claims l c a sound gates h
