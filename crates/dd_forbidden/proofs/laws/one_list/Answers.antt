use Rattle.dd_forbidden.proofs.OneList.{one_list}
use Rattle.dd_forbidden.proofs.laws.one_list.Goals as goal

pub returns : goal.returns
returns c = one_list
