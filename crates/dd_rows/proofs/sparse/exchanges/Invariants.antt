use Rattle.std.proofs.Common.{◌≡◌, take, map}
use Rattle.dd_rows.specs.{Patterns.pattern_number, listing.Views.symbols_at, listing.Sparse.exchange_of}
use Rattle.dd_rows.proofs.sparse.exchanges.Given as goal

abbrev pub invariant-loop-numbers : goal.invariant-loop-numbers
invariant-loop-numbers l =
    l.list.items ≡ map (λ numbers. exchange_of l.gives (pattern_number l.patterns (symbols_at l.symbols numbers))) (take l.numbers-index l.views.givers)
