use Rattle.std.proofs.Common.{◌≡◌, take, map}
use Rattle.dd_rows.specs.listing.Views.{symbols_at}
use Rattle.dd_rows.proofs.repeats.are_all_same.Given as goal

abbrev pub invariant-loop-numbers : goal.invariant-loop-numbers
invariant-loop-numbers l = map (symbols_at l.one) (take l.numbers-index l.lists) ≡ map (symbols_at l.other) (take l.numbers-index l.lists)
