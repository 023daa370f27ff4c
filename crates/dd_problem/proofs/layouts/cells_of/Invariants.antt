use Rattle.std.proofs.Common.{◌≡◌, ◌++◌, map}
use Rattle.dd_problem.specs.{Layouts.nth_cell, lemmas.RangesLeft.range_to}
use Rattle.dd_problem.proofs.layouts.cells_of.Given as goal

abbrev pub invariant-loop-number : goal.invariant-loop-number
invariant-loop-number l = map (nth_cell l.bounds l.nodes) (range_to 0 l.count) ≡ l.cells.items ++ map (nth_cell l.bounds l.nodes) (range_to l.number l.count)
