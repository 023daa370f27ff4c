use Rattle.std.proofs.Common.{◌≡◌, length}
use Rattle.dd_output.specs.reading.{Stops.entries_at, Whole.answer_entry}
use Rattle.dd_output.proofs.Loops.{with_front}
use Rattle.dd_output.proofs.reading.answers_of.Given as goal

abbrev pub invariant-loop-answers : goal.invariant-loop-answers
invariant-loop-answers l = with_front l.answers (entries_at answer_entry (length l.answers) l.rest) ≡ entries_at answer_entry 0 l.bytes

abbrev pub decreases-loop-answers : goal.decreases-loop-answers
decreases-loop-answers l = length l.rest
