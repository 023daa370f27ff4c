use Rattle.std.proofs.Common.{◌≡◌, ◌++◌, length}
use Rattle.dd_written.specs.reading.Atoms.{balls_at}
use Rattle.dd_written.proofs.formulas.balls.Given as goal

abbrev pub invariant-loop-rest : goal.invariant-loop-rest
invariant-loop-rest l = (l.balls ++ (balls_at l.rest).0, (balls_at l.rest).1) ≡ balls_at l.tokens

abbrev pub decreases-loop-rest : goal.decreases-loop-rest
decreases-loop-rest l = length l.rest
