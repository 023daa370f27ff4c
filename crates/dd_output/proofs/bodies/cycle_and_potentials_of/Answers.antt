use Rattle.std.proofs.{Common.arith, lemmas.Grind.common_steps}
use Rattle.dd_output.specs.reading.Grammar.{cycle_and_potentials}
use Rattle.dd_output.proofs.bodies.cycle_and_potentials_of.Goals as goal

pub returns-in_err-rest-2 : goal.returns-in_err-rest-2
unfolding cycle_and_potentials
returns-in_err-rest-2 c = grind (arith, common_steps)
