use Rattle.std.proofs.{Common.arith, lemmas.Grind.common_steps}
use Rattle.dd_output.specs.reading.Grammar.{no_row}
use Rattle.dd_output.proofs.bodies.no_of.Goals as goal

pub returns : goal.returns
unfolding no_row
returns c = grind (arith, common_steps)
