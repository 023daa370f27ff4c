use Rattle.std.proofs.{Common.arith, lemmas.Grind.common_steps}
use Rattle.dd_output.specs.reading.Grammar.{bound_row}
use Rattle.dd_output.proofs.bodies.bound_of.Goals as goal

pub returns-in_err-rest-2 : goal.returns-in_err-rest-2
unfolding bound_row
returns-in_err-rest-2 c = grind (arith, common_steps)
