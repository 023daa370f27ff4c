use Rattle.std.proofs.Common.{◌≡◌, ◌*◌, ◌^◌, ◌≤◌, pos, ◌-ℤ◌, ◌*ℤ◌, ◌≤ℤ◌, slice_index_or}
use Rattle.dd_discharge.specs.Amounts.{total_below, column_value}
use Rattle.dd_discharge.proofs.check.left_side.Given as goal

abbrev pub invariant-loop-j : goal.invariant-loop-j
invariant-loop-j l = record {
  sum : l.sum ≡ total_below (λ j. slice_index_or l.coefficients j (pos 0) *ℤ column_value (pos l.held) l.amounts j) l.j;
  low : (pos 0 -ℤ pos (l.j * 2 ^ 80)) ≤ℤ l.sum;
  high : l.sum ≤ℤ pos (l.j * 2 ^ 80);
}
