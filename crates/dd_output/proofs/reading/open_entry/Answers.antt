use Rattle.std.proofs.{Common.arith, lemmas.Grind.common_steps}
use Rattle.dd_output.specs.reading.Whole.{open_entry}
use Rattle.dd_output.proofs.reading.open_entry.Goals as goal

pub returns-in_ok-answer : goal.returns-in_ok-answer
unfolding open_entry
returns-in_ok-answer c = grind (arith, common_steps)
