use Rattle.std.proofs.{Common.arith, lemmas.Grind.common_steps}
use Rattle.dd_engines.proofs.Cycling.{differences_self}
use Rattle.dd_engines.proofs.cycle.Landmark.renew.Goals as goal

pub returns-then-k-self-clause-counted : goal.returns-then-k-self-clause-counted
returns-then-k-self-clause-counted c = record { long = grind (arith, common_steps); counted = grind (arith, common_steps, differences_self) }
