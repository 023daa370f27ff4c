use Rattle.dd_output.proofs.Whole.{completes}
use Rattle.dd_output.proofs.laws.completes.Goals as goal

pub returns : goal.returns
returns c = completes
