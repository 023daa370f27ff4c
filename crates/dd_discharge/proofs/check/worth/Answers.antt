use Rattle.std.proofs.{Common.arith, lemmas.Grind.elements}
use Rattle.dd_discharge.proofs.check.worth.Goals as goal

pub loop-k-preserved : goal.loop-k-preserved
loop-k-preserved c = grind (arith, elements)

pub overflow_add-sum : goal.overflow_add-sum
overflow_add-sum c = grind (arith, elements)
