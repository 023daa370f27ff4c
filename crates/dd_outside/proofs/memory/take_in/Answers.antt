use Rattle.std.proofs.{Common.arith, lemmas.Grind.common_steps}
use Rattle.dd_outside.proofs.memory.take_in.Goals as goal

pub returns-clause-bytes : goal.returns-clause-bytes
returns-clause-bytes c = grind (arith, common_steps)
