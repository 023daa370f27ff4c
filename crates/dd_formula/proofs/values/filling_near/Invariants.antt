use Rattle.std.proofs.Common.{◌≡◌, Some, map, take}
use Rattle.dd_expansion.specs.Leaves.{seen}
use Rattle.dd_formula.proofs.values.filling_near.Given as goal

abbrev pub invariant-loop-cell : goal.invariant-loop-cell
invariant-loop-cell g l = map Some l.symbols.items ≡ map (seen (g.R.Reads.symbols l.read) l.at) (take l.cell-index l.cell-items)
