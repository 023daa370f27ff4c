use Rattle.std.proofs.{Common.arith, lemmas.Grind.common_steps}
use Rattle.dd_output.specs.reading.Whole.{output_at}
use Rattle.dd_output.proofs.reading.output_of.Goals as goal

pub returns-in_err-rest : goal.returns-in_err-rest
unfolding output_at
returns-in_err-rest c = grind (arith, common_steps)

pub returns : goal.returns
unfolding output_at
returns c = grind (arith, common_steps)
