use Rattle.std.proofs.Common.{◌≡◌, take, map}
use Rattle.dd_rows.specs.listing.Views.{symbols_at, with_patterns}
use Rattle.dd_rows.proofs.program.add_patterns.Given as goal

abbrev pub invariant-loop-numbers : goal.invariant-loop-numbers
invariant-loop-numbers l =
    l.patterns ≡ with_patterns l.initial.patterns (map (symbols_at l.symbols) (take l.numbers-index l.views.givers))
