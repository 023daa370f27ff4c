use Rattle.std.proofs.Common.{◌≡◌, ◌++◌, length}
use Rattle.dd_written.specs.reading.Atoms.{moves_at}
use Rattle.dd_written.proofs.formulas.moves.Given as goal

abbrev pub invariant-loop-rest : goal.invariant-loop-rest
invariant-loop-rest l = (l.moves ++ (moves_at l.rest).0, (moves_at l.rest).1) ≡ moves_at l.tokens

abbrev pub decreases-loop-rest : goal.decreases-loop-rest
decreases-loop-rest l = length l.rest
