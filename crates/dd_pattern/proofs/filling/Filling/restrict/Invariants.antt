use Rattle.std.proofs.Common.{◌≡◌, map, take, Some}
use Rattle.dd_pattern.specs.Filling.{filling_look}
use Rattle.dd_pattern.proofs.filling.Filling.restrict.Given as goal

abbrev pub invariant-loop-cell : goal.invariant-loop-cell
invariant-loop-cell l = map Some l.symbols.items ≡ map (filling_look l.self) (take l.cell-index l.cells)
