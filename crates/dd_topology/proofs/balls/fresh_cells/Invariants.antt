use Rattle.std.proofs.Common.{take}
use Rattle.dd_topology.specs.keeping.Growth.{AddsCells}
use Rattle.dd_topology.proofs.balls.fresh_cells.Given as goal

abbrev pub invariant-loop-cell : goal.invariant-loop-cell
invariant-loop-cell l = AddsCells l.initial.found.keys (take l.cell-index l.cells) l.found.keys l.fresh.items
