use Rattle.std.proofs.Common.{◌≡◌, take}
use Rattle.dd_rows.specs.listing.Views.{symbols_at}
use Rattle.dd_rows.proofs.repeats.are_same.Given as goal

abbrev pub invariant-loop-number : goal.invariant-loop-number
invariant-loop-number l = symbols_at l.one (take l.number-index l.numbers) ≡ symbols_at l.other (take l.number-index l.numbers)
