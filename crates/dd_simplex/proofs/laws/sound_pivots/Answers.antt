use Rattle.dd_simplex.proofs.Soundness.{sound}
use Rattle.dd_simplex.proofs.laws.sound_pivots.Goals as goal

pub returns : goal.returns
returns c = λ k d h. sound c.args._program.now k d c.columns-columns.ensures.program h
