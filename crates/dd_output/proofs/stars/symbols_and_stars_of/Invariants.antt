use Rattle.std.proofs.Common.{◌≡◌, length}
use Rattle.dd_output.specs.reading.{Stops.entries_at, Stars.symbol_or_star_entry}
use Rattle.dd_output.proofs.Loops.{with_front}
use Rattle.dd_output.proofs.stars.symbols_and_stars_of.Given as goal

abbrev pub invariant-loop-symbols : goal.invariant-loop-symbols
invariant-loop-symbols l = with_front l.symbols (entries_at symbol_or_star_entry (length l.symbols) l.rest) ≡ entries_at symbol_or_star_entry 0 l.bytes

abbrev pub decreases-loop-symbols : goal.decreases-loop-symbols
decreases-loop-symbols l = length l.rest
