use Rattle.std.proofs.Common.{◌≡◌, length}
use Rattle.dd_output.specs.reading.{Stops.entries_at, Periods.period_entry}
use Rattle.dd_output.proofs.Loops.{with_front}
use Rattle.dd_output.proofs.sides.periods_of.Given as goal

abbrev pub invariant-loop-periods : goal.invariant-loop-periods
invariant-loop-periods l = with_front l.periods (entries_at period_entry (length l.periods) l.rest) ≡ entries_at period_entry 0 l.bytes

abbrev pub decreases-loop-periods : goal.decreases-loop-periods
decreases-loop-periods l = length l.rest
