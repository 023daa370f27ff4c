use Rattle.std.proofs.Common.{◌≡◌, take}
use Rattle.dd_counts.specs.Rules.{greatest_x}
use Rattle.dd_counts.proofs.rules.greatest_x.Given as goal

abbrev pub invariant-loop-cell : goal.invariant-loop-cell
invariant-loop-cell l = l.greatest ≡ greatest_x l.from (take l.cell-index l.cells)
