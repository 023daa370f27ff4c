use Rattle.std.proofs.Common.{◌≡◌, take, map}
use Rattle.dd_rows.specs.listing.Sparse.{dense}
use Rattle.dd_rows.proofs.program.dense_rows.Given as goal

abbrev pub invariant-loop-row : goal.invariant-loop-row
invariant-loop-row l = l.list ≡ map (dense l.patterns) (take l.row-index l.row-items)
