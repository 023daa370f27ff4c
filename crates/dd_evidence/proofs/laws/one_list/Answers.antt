use Rattle.dd_evidence.proofs.Lists.{one_forbidden}
use Rattle.dd_evidence.proofs.laws.one_list.Goals as goal

pub returns : goal.returns
returns c = one_forbidden c.one_list.ensures
