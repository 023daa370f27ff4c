use Rattle.std.proofs.{Common.arith, lemmas.Grind.common_steps, lemmas.Grind.elements}
use Rattle.dd_density.proofs.claims.are_ranks.Goals as goal

pub returns : goal.returns
returns c = grind (arith, common_steps)

pub loop-state-preserved : goal.loop-state-preserved
loop-state-preserved c = grind (arith, elements)
