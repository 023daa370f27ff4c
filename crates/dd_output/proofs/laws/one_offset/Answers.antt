use Rattle.dd_output.proofs.Whole.{one_offset}
use Rattle.dd_output.proofs.laws.one_offset.Goals as goal

pub returns : goal.returns
returns c = one_offset
