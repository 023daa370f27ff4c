use Rattle.dd_output.proofs.Whole.{read_again}
use Rattle.dd_output.proofs.laws.read_again.Goals as goal

pub returns : goal.returns
returns c = read_again
