use Rattle.dd_verify.proofs.{BoxForms.no_equal, Deciding.nothing_holds}
use Rattle.dd_verify.proofs.boxes.check_equal.Goals as goal

pub returns-in-YesBoth : goal.returns-in-YesBoth
returns-in-YesBoth c = rw (c.in-YesBoth.is, ← c.as_slice.ensures, ← c.as_slice-in-YesBoth.ensures) c.check_both.ensures

pub returns-in_default : goal.returns-in_default
returns-in_default c = nothing_holds _ (λ both. no_equal _ _ _ _ c.in_default.not-YesBoth c.in_default.not-No c.in_default.not-Unknown both.1)
