use Rattle.std.proofs.Common.{◌≡◌, ◌*◌, ◌^◌, ◌≤◌, pos, ◌-ℤ◌, ◌*ℤ◌, ◌≤ℤ◌, slice_index}
use Rattle.dd_discharge.specs.Amounts.{total_below, coefficient_in}
use Rattle.dd_discharge.proofs.check.sum_in_column.Given as goal

abbrev pub invariant-loop-k : goal.invariant-loop-k
invariant-loop-k l = record {
  sum : l.sum ≡ total_below (λ k. pos (slice_index l.duals k) *ℤ coefficient_in l.rows k l.column) l.k;
  low : (pos 0 -ℤ pos (l.k * 2 ^ 80)) ≤ℤ l.sum;
  high : l.sum ≤ℤ pos (l.k * 2 ^ 80);
}
