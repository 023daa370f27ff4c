use Rattle.dd_written.proofs.{Complete.formula_again, Sound.formula_sound}
use Rattle.dd_written.proofs.laws.formula_is_read.Goals as goal

pub returns : goal.returns
returns c = record { written = formula_sound; read = formula_again }
