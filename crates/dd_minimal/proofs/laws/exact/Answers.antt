use Rattle.dd_minimal.proofs.ListLaws.{exact}
use Rattle.dd_minimal.proofs.laws.exact.Goals as goal

pub returns : goal.returns
returns c = exact
