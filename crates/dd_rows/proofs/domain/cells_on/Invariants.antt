use Rattle.std.proofs.Common.{◌≡◌, ◌++◌, map, take}
use Rattle.std.specs.List.{range_with_len}
use Rattle.dd_lattice.specs.Cells.{cell}
use Rattle.dd_boxes.specs.Cells.{cells_on}
use Rattle.dd_rows.proofs.domain.cells_on.Given as goal

abbrev pub invariant-loop-position : goal.invariant-loop-position
invariant-loop-position l = l.cells ≡ cells_on l.nodes (take l.position-index l.positions)

abbrev pub invariant-loop-node : goal.invariant-loop-node
invariant-loop-node l = l.cells ≡ l.initial.cells ++ map (cell l.position) (range_with_len 0 l.node)
