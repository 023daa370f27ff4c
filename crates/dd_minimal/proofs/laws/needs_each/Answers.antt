use Rattle.dd_minimal.proofs.ListLaws.{needs_each}
use Rattle.dd_minimal.proofs.laws.needs_each.Goals as goal

pub returns : goal.returns
returns c = needs_each
