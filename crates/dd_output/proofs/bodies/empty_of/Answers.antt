use Rattle.std.proofs.{Common.arith, lemmas.Grind.common_steps}
use Rattle.dd_output.specs.reading.Grammar.{empty_row}
use Rattle.dd_output.proofs.bodies.empty_of.Goals as goal

pub returns-in_err-rest : goal.returns-in_err-rest
unfolding empty_row
returns-in_err-rest c = grind (arith, common_steps)
