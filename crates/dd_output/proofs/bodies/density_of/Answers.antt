use Rattle.std.proofs.{Common.arith, lemmas.Grind.common_steps}
use Rattle.dd_output.specs.reading.Grammar.{density_row}
use Rattle.dd_output.proofs.bodies.density_of.Goals as goal

pub returns : goal.returns
unfolding density_row
returns c = grind (arith, common_steps)
