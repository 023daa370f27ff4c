use Rattle.std.proofs.Common.{refl}
use Rattle.dd_formula.proofs.composition.joined.Goals as goal

pub returns-in-Ok-new-clause-ok : goal.returns-in-Ok-new-clause-ok
returns-in-Ok-new-clause-ok c = rw (c.from_box.ensures, c.from_box-in-Ok-new.ensures, c.in-Ok.ensures.ok, c.in-Ok-new.ensures.ok) refl

pub returns-in-Err-new-clause-fault : goal.returns-in-Err-new-clause-fault
returns-in-Err-new-clause-fault c = rw (c.into_inner.ensures, c.in-Ok.ensures.ok, c.in-Err-new.ensures.value_returned) refl
