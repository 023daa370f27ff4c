use Rattle.std.proofs.Common.{ℕ, ◌*◌, ◌<◌, pos, ◌*ℤ◌, ◌≤ℤ◌}
use Rattle.dd_discharge.specs.Amounts.{total_below, coefficient_in, column_value, row_in}
use Rattle.dd_discharge.proofs.check.meets_rows.Given as goal

abbrev pub invariant-loop-k : goal.invariant-loop-k
invariant-loop-k l =
    (k : ℕ) → k < l.k → total_below (λ j. coefficient_in l.rows k j *ℤ column_value (pos l.held) l.amounts j) l.columns ≤ℤ pos (l.common * (row_in l.rows k).bound)
