use Rattle.std.proofs.Common.{◌≡◌, take}
use Rattle.dd_lattice.specs.InOrder.{in_order}
use Rattle.dd_lattice.proofs.ordering.in_order.Given as goal

abbrev pub invariant-loop-cell : goal.invariant-loop-cell
invariant-loop-cell l = l.found.keys ≡ in_order (take l.cell-index l.cells)
