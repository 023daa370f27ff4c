use Rattle.std.proofs.Common.{◌≡◌, take}
use Rattle.dd_compile.specs.placing.Placed.{signals_there}
use Rattle.dd_compile.proofs.templates.signals_there.Given as goal

abbrev pub invariant-loop-cell : goal.invariant-loop-cell
invariant-loop-cell l = l.signals.items ≡ signals_there l.inputs l.at (take l.cell-index l.cells)
