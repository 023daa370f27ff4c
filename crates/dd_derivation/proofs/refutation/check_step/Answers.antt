use Rattle.std.proofs.{Common.arith, lemmas.Grind.common_steps}
use Rattle.dd_derivation.proofs.refutation.check_step.Goals as goal

pub returns-clause-same : goal.returns-clause-same
returns-clause-same c = grind (arith, common_steps)
