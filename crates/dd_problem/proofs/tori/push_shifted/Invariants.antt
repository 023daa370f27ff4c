use Rattle.std.proofs.Common.{◌≡◌, ◌++◌, map, take}
use Rattle.dd_lattice.specs.Cells.{shifted}
use Rattle.dd_problem.proofs.tori.push_shifted.Given as goal

abbrev pub invariant-loop-cell : goal.invariant-loop-cell
invariant-loop-cell l = l.found.items ≡ l.initial.found.items ++ map (shifted l.by) (take l.cell-index l.cells)
