use Rattle.std.proofs.{Common.arith, lemmas.Grind.common_steps}
use Rattle.dd_compile.proofs.templates.place_all.Goals as goal

pub returns : goal.returns
returns c = grind (arith, common_steps)

pub loop-signal-preserved : goal.loop-signal-preserved
loop-signal-preserved c = grind (arith, common_steps)
