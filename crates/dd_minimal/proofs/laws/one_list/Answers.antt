use Rattle.dd_minimal.proofs.ListLaws.{one_list}
use Rattle.dd_minimal.proofs.laws.one_list.Goals as goal

pub returns : goal.returns
returns c = one_list c.one_list.ensures
