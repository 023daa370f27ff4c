use Rattle.std.proofs.Common.{◌≡◌, take}
use Rattle.dd_rows.specs.listing.Views.{givers_of}
use Rattle.dd_rows.proofs.views.givers.Given as goal

abbrev pub invariant-loop-vector : goal.invariant-loop-vector
invariant-loop-vector l = l.givers ≡ givers_of l.cells l.boxed (take l.vector-index l.vectors)
