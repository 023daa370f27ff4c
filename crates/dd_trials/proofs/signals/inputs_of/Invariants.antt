use Rattle.std.proofs.Common.{◌≡◌, take}
use Rattle.dd_trials.proofs.signals.inputs_of.Given as goal

abbrev pub invariant-loop-cell : goal.invariant-loop-cell
invariant-loop-cell l = record {
  before : l.inputs.cells ≡ take l.cell-index l.cells;
}
