use Rattle.std.proofs.{Common.arith, lemmas.Grind.common_steps}
use Rattle.dd_formed.proofs.automata.copy_of.Goals as goal

pub loop-rule-preserved : goal.loop-rule-preserved
loop-rule-preserved c = grind (arith, common_steps)

pub returns : goal.returns
returns c = grind (arith, common_steps)
