use Rattle.std.proofs.{Common.arith, lemmas.Grind.common_steps}
use Rattle.dd_counts.proofs.rules.least_x.Goals as goal

pub loop-cell-preserved : goal.loop-cell-preserved
loop-cell-preserved c = grind (arith, common_steps)

pub returns : goal.returns
returns c = grind (arith, common_steps)
