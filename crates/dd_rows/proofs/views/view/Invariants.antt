use Rattle.std.proofs.Common.{◌≡◌, take}
use Rattle.dd_rows.specs.listing.Views.{view_of}
use Rattle.dd_rows.proofs.views.view.Given as goal

abbrev pub invariant-loop-cell : goal.invariant-loop-cell
invariant-loop-cell l = l.numbers ≡ view_of l.cells (take l.cell-index l.boxed) l.centre.position
