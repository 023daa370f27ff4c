use Rattle.std.proofs.Common.{◌≡◌, drop}
use Rattle.dd_faults.specs.{Order.noted, Commands.symbol_faults}
use Rattle.dd_faults.proofs.boxes.symbols.Given as goal

abbrev pub invariant-loop-place : goal.invariant-loop-place
invariant-loop-place l = noted l.found (symbol_faults l.context l.place (drop l.place l.written)) ≡ noted l.fn.found (symbol_faults l.context 0 l.written)
