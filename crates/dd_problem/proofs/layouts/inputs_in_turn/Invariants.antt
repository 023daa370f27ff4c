use Rattle.std.proofs.Common.{◌≡◌, length}
use Rattle.std.specs.List.{range_with_len}
use Rattle.dd_problem.proofs.Inputting.{first_numbered}
use Rattle.dd_problem.proofs.layouts.inputs_in_turn.Given as goal

abbrev pub invariant-loop-cell : goal.invariant-loop-cell
invariant-loop-cell l = record {
  number : l.number ≡ l.cell-index;
  inputs : l.inputs ≡ first_numbered l.symbols l.cells (range_with_len 0 (length l.cells)) l.cell-index;
}
