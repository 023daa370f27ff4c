use Rattle.std.proofs.Common.{◌≡◌, length}
use Rattle.dd_output.specs.reading.{Stops.entries_at, Lists.signed_entry}
use Rattle.dd_output.proofs.Loops.{with_front}
use Rattle.dd_output.proofs.lists.integers_of.Given as goal

abbrev pub invariant-loop-numbers : goal.invariant-loop-numbers
invariant-loop-numbers l = with_front l.numbers (entries_at (signed_entry l.least l.most) (length l.numbers) l.rest) ≡ entries_at (signed_entry l.least l.most) 0 l.bytes

abbrev pub decreases-loop-numbers : goal.decreases-loop-numbers
decreases-loop-numbers l = length l.rest
