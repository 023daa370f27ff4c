use Rattle.dd_verify.proofs.Weighing.{not_written, written}
use Rattle.dd_verify.proofs.densities.is_least.Goals as goal

pub returns-then-not-is_writable : goal.returns-then-not-is_writable
returns-then-not-is_writable c = not_written c.is_writable.result _ _ c.is_writable.ensures c.if-not-is_writable.true

pub check_density-requires-clause-strip : goal.check_density-requires-clause-strip
check_density-requires-clause-strip c = c.requires.strip

pub check_density-requires-clause-weights : goal.check_density-requires-clause-weights
check_density-requires-clause-weights c = c.requires.weights

pub check_density-requires-clause-few : goal.check_density-requires-clause-few
check_density-requires-clause-few c = c.requires.few

pub returns : goal.returns
returns c = written c.check_density.result _ _ (c.is_writable.ensures.0 c.if-not-is_writable.false) c.check_density.ensures
