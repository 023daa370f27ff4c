use Rattle.std.proofs.Common.{◌≡◌, ◌*◌, ◌^◌, ◌≤◌, pos, slice_index}
use Rattle.dd_discharge.specs.Amounts.{total_below, row_in}
use Rattle.dd_discharge.proofs.check.worth.Given as goal

abbrev pub invariant-loop-k : goal.invariant-loop-k
invariant-loop-k l = record {
  sum : pos l.sum ≡ total_below (λ k. pos (slice_index l.duals k * (row_in l.rows k).bound)) l.k;
  high : l.sum ≤ l.k * 2 ^ 80;
}
