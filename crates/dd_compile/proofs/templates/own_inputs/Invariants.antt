use Rattle.std.proofs.Common.{◌≡◌, ◌*◌, ◌++◌, take, drop}
use Rattle.dd_compile.specs.placing.Own.{signals_in_turn}
use Rattle.dd_compile.proofs.templates.own_inputs.Given as goal

abbrev pub invariant-loop-cell : goal.invariant-loop-cell
invariant-loop-cell l = record {
  variables : l.variables ≡ l.cell-index * l.symbols;
  cells : l.inputs.cells ≡ take l.cell-index l.cells;
  signals : signals_in_turn l.symbols 0 l.cells ≡ l.inputs.signals ++ signals_in_turn l.symbols l.variables (drop l.cell-index l.cells);
}
