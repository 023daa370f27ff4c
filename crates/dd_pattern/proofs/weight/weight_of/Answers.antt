use Rattle.std.proofs.{Common.arith, lemmas.Grind.common_steps}
use Rattle.dd_pattern.proofs.weight.weight_of.Goals as goal

pub loop-symbol-preserved : goal.loop-symbol-preserved
loop-symbol-preserved c = grind (arith, common_steps)
