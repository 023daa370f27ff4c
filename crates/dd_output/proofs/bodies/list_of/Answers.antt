use Rattle.std.proofs.{Common.arith, lemmas.Grind.common_steps}
use Rattle.dd_output.specs.reading.Grammar.{list_row}
use Rattle.dd_output.proofs.bodies.list_of.Goals as goal

pub returns : goal.returns
unfolding list_row
returns c = grind (arith, common_steps)
