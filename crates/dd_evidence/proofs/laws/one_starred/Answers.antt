use Rattle.dd_evidence.proofs.Starred.{one_starred}
use Rattle.dd_evidence.proofs.laws.one_starred.Goals as goal

pub returns : goal.returns
returns c = one_starred c.one_list.ensures
