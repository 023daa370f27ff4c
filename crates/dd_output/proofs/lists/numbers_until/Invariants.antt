use Rattle.std.proofs.Common.{◌≡◌, length}
use Rattle.dd_output.specs.reading.{Stops.entries_at, Lists.number_entry}
use Rattle.dd_output.proofs.Loops.{with_front}
use Rattle.dd_output.proofs.lists.numbers_until.Given as goal

abbrev pub invariant-loop-entry : goal.invariant-loop-entry
invariant-loop-entry l = with_front l.buffer.items (entries_at (λ _. number_entry l.end) (length l.buffer.items) l.rest) ≡ entries_at (λ _. number_entry l.end) 0 l.bytes

abbrev pub decreases-loop-entry : goal.decreases-loop-entry
decreases-loop-entry l = length l.rest
