use Rattle.std.proofs.Common.{◌≡◌, ◌∷◌, pos, take}
use Rattle.std.specs.List.{flat_map}
use Rattle.dd_rows.specs.listing.Sparse.{entries}
use Rattle.dd_rows.proofs.sparse.SparseRow.dense.Given as goal

abbrev pub invariant-loop-exchange : goal.invariant-loop-exchange
invariant-loop-exchange l = l.coefficients ≡ pos 1 ∷ flat_map (entries l.patterns) (take l.exchange-index l.exchange-items)
