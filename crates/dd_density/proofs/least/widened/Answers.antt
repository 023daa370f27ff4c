use Rattle.std.proofs.{Common.arith, lemmas.Grind.common_steps}
use Rattle.dd_density.proofs.least.widened.Goals as goal

pub loop-number-preserved : goal.loop-number-preserved
loop-number-preserved c = grind (arith, common_steps)

pub returns-clause-same : goal.returns-clause-same
returns-clause-same c = grind (arith, common_steps)
