use Rattle.std.proofs.Common.{◌≡◌, take}
use Rattle.dd_rows.specs.listing.Views.{symbols_at}
use Rattle.dd_rows.proofs.pattern.Pattern.read.Given as goal

abbrev pub invariant-loop-number : goal.invariant-loop-number
invariant-loop-number l = l.self-inside.symbols.items ≡ symbols_at l.symbols (take l.number-index l.numbers)
