use Rattle.dd_evidence.specs.Answers.{member_inside}
use Rattle.dd_verify.proofs.BoxForms.{inside_of}
use Rattle.dd_verify.proofs.places.is_member_certificate.Goals as goal

pub returns-in-Inside : goal.returns-in-Inside
returns-in-Inside c = rw c.in-Inside.is (λ h. member_inside (c.lives.ensures.0 h), λ k. c.lives.ensures.1 (inside_of k))
