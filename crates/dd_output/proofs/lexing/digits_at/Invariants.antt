use Rattle.std.proofs.Common.{◌≡◌, ◌≤◌, [], length}
use Rattle.dd_output.specs.reading.Stops.{digits_at}
use Rattle.dd_output.proofs.lexing.digits_at.Given as goal

abbrev pub invariant-loop-rest : goal.invariant-loop-rest
invariant-loop-rest l = record {
  grown : l.first ≤ l.number;
  within : l.number ≤ l.bound;
  same : digits_at l.bound l.end l.other (λ _. []) l.number l.rest ≡ digits_at l.bound l.end l.other (λ _. []) l.first l.bytes;
}

abbrev pub decreases-loop-rest : goal.decreases-loop-rest
decreases-loop-rest l = length l.rest
