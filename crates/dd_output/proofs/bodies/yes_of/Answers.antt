use Rattle.std.proofs.{Common.arith, lemmas.Grind.common_steps}
use Rattle.dd_output.specs.reading.Grammar.{yes_row}
use Rattle.dd_output.proofs.bodies.yes_of.Goals as goal

pub returns-in_ok-right : goal.returns-in_ok-right
unfolding yes_row
returns-in_ok-right c = grind (arith, common_steps)

pub returns-in_ok-steps : goal.returns-in_ok-steps
unfolding yes_row
returns-in_ok-steps c = grind (arith, common_steps)
