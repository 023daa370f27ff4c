use Rattle.dd_verify.proofs.Weighing.{not_written, written, decided_so}
use Rattle.dd_verify.proofs.discharges.is_bound.Goals as goal

pub returns-then-not-is_writable : goal.returns-then-not-is_writable
returns-then-not-is_writable c = not_written c.is_writable.result _ _ c.is_writable.ensures c.if-not-is_writable.true

pub check_bound-requires-clause-numerator : goal.check_bound-requires-clause-numerator
check_bound-requires-clause-numerator c = (c.is_writable.ensures.0 c.if-not-is_writable.false).0

pub check_bound-requires-clause-common : goal.check_bound-requires-clause-common
check_bound-requires-clause-common c = (c.is_writable.ensures.0 c.if-not-is_writable.false).2.1

pub check_bound-requires-clause-weights : goal.check_bound-requires-clause-weights
check_bound-requires-clause-weights c = c.requires.weights

pub check_bound-requires-clause-radius : goal.check_bound-requires-clause-radius
check_bound-requires-clause-radius c = c.requires.radius

pub check_bound-requires-clause-margin : goal.check_bound-requires-clause-margin
check_bound-requires-clause-margin c = c.requires.margin

pub check_bound-requires-clause-vectors : goal.check_bound-requires-clause-vectors
check_bound-requires-clause-vectors c = c.requires.vectors

pub returns : goal.returns
returns c =
    written c.check_bound.result _ _ (c.is_writable.ensures.0 c.if-not-is_writable.false)
    (decided_so c.check_bound.result _ c.check_bound.ensures.yes c.check_bound.ensures.no)
