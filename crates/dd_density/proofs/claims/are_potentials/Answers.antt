use Rattle.std.proofs.{Common.arith, lemmas.Grind.common_steps}
use Rattle.dd_density.proofs.claims.are_potentials.Goals as goal

pub returns-then-not-are_rises_from : goal.returns-then-not-are_rises_from
returns-then-not-are_rises_from c = grind (arith, common_steps)

pub returns : goal.returns
returns c = grind (arith, common_steps)
