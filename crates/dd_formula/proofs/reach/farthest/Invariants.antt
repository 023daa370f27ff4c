use Rattle.std.proofs.Common.{◌≡◌, take}
use Rattle.dd_formula.specs.Reach.{farthest}
use Rattle.dd_formula.proofs.reach.farthest.Given as goal

abbrev pub invariant-loop-cell : goal.invariant-loop-cell
invariant-loop-cell l = l.greatest ≡ farthest (take l.cell-index l.cells)
