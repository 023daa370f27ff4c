use Rattle.std.proofs.{Common.arith, lemmas.Grind.common_steps}
use Rattle.dd_outside.proofs.source.read_on.Goals as goal

pub returns-clause-bytes : goal.returns-clause-bytes
returns-clause-bytes g c = grind (arith, common_steps)

pub returns-clause-stopped : goal.returns-clause-stopped
returns-clause-stopped g c = grind (arith, common_steps)
