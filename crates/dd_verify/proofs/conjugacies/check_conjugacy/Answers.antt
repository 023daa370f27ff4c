use Rattle.dd_verify.proofs.{Deciding.nothing_holds, PartForms.no_conjugacy, PartForms.unknown_decides}
use Rattle.dd_verify.proofs.conjugacies.check_conjugacy.Goals as goal

pub returns-in-Conjugate : goal.returns-in-Conjugate
returns-in-Conjugate c = rw (c.in-Conjugate.is, ← c.as_slice.ensures, ← c.as_slice-in-Conjugate.ensures) c.check_each.ensures

pub returns-in-Unknown : goal.returns-in-Unknown
returns-in-Unknown c = rw c.in-Unknown.is (unknown_decides _ _ _ _ c.is_limits.ensures)

pub returns-in_default : goal.returns-in_default
returns-in_default c = nothing_holds _ (λ both. no_conjugacy _ _ _ c.in_default.not-Conjugate c.in_default.not-Broken c.in_default.not-Unknown both.1)
