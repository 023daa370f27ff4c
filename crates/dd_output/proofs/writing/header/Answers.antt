use Rattle.std.proofs.{Common.arith, lemmas.Grind.common_steps}
use Rattle.dd_output.proofs.writing.header.Goals as goal

pub returns : goal.returns
returns c = grind (arith, common_steps)
