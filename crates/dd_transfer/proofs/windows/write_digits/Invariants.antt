use Rattle.std.proofs.Common.{◌≡◌, ◌++◌, ◌≤◌, length, drop}
use Rattle.dd_transfer.specs.Windows.{digits}
use Rattle.dd_transfer.proofs.windows.write_digits.Given as goal

abbrev pub invariant-loop-at : goal.invariant-loop-at
invariant-loop-at l = record {
  within : l.at ≤ length l.symbols;
  written : digits l.base l.at l.rest ++ drop l.at l.symbols ≡ digits l.base (length l.symbols) l.fn.number;
}

abbrev pub decreases-loop-at : goal.decreases-loop-at
decreases-loop-at l = l.at
