use Rattle.dd_simplex.proofs.Soundness.{one_stop_of}
use Rattle.dd_simplex.proofs.laws.one_stop.Goals as goal

pub returns : goal.returns
returns c = one_stop_of c.args._program.now c.args._pivots c.columns-columns.ensures.program
