use Rattle.std.proofs.Common.{◌≡◌}
use Rattle.dd_rows.specs.listing.Views.{centre_of}
use Rattle.dd_rows.proofs.views.centre.Given as goal

abbrev pub invariant-loop-node : goal.invariant-loop-node
invariant-loop-node l = l.numbers ≡ centre_of l.cells l.node
