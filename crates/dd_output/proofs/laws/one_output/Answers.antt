use Rattle.dd_output.proofs.Whole.{unique}
use Rattle.dd_output.proofs.laws.one_output.Goals as goal

pub returns : goal.returns
returns c = unique
