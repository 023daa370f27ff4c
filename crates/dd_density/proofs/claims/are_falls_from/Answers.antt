use Rattle.std.proofs.{Common.arith, lemmas.Grind.elements}
use Rattle.dd_density.proofs.claims.are_falls_from.Goals as goal

pub loop-slice-preserved : goal.loop-slice-preserved
loop-slice-preserved c = grind (arith, elements)
