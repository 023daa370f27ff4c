use Rattle.dd_verify.proofs.Weighing.{not_written, written}
use Rattle.dd_verify.proofs.densities.is_empty.Goals as goal

pub returns-then-not-is_list : goal.returns-then-not-is_list
returns-then-not-is_list c = not_written c.is_list.result _ _ c.is_list.ensures c.if-not-is_list.true

pub check_empty-requires-clause-strip : goal.check_empty-requires-clause-strip
check_empty-requires-clause-strip c = c.requires.strip

pub check_empty-requires-clause-few : goal.check_empty-requires-clause-few
check_empty-requires-clause-few c = c.requires.few

pub returns : goal.returns
returns c = written c.check_empty.result _ _ (c.is_list.ensures.0 c.if-not-is_list.false) c.check_empty.ensures
