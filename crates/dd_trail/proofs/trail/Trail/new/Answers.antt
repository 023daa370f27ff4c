use Rattle.std.proofs.{Common.arith, lemmas.Grind.common_steps}
use Rattle.dd_trail.proofs.trail.Trail.new.Goals as goal

pub invariant_of-result : goal.invariant_of-result
invariant_of-result c = grind (arith, common_steps)
