use Rattle.std.proofs.{Common.arith, lemmas.Grind.common_steps}
use Rattle.dd_transfer.proofs.building.slice_weights.Goals as goal

pub loop-slice-preserved : goal.loop-slice-preserved
loop-slice-preserved c = grind (arith, common_steps)
