use Rattle.std.proofs.Common.{◌≡◌, ◌++◌}
use Rattle.dd_rows.specs.listing.Sparse.{entries}
use Rattle.dd_rows.proofs.sparse.push_entries.Given as goal

abbrev pub invariant-loop-pattern : goal.invariant-loop-pattern
invariant-loop-pattern l = l.coefficients ≡ l.initial.coefficients ++ entries l.pattern l.exchange
