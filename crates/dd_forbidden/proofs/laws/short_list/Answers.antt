use Rattle.dd_forbidden.proofs.OneList.{short_list}
use Rattle.dd_forbidden.proofs.laws.short_list.Goals as goal

pub returns : goal.returns
returns c = short_list
