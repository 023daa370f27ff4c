use Rattle.std.proofs.Common.{ℕ, ◌<◌, ◌≤◌, pos, ◌≤ℤ◌}
use Rattle.dd_discharge.specs.Amounts.{column_sum}
use Rattle.dd_discharge.proofs.check.are_duals.Given as goal

abbrev pub invariant-loop-j : goal.invariant-loop-j
invariant-loop-j l = (j : ℕ) → 1 ≤ j → j < l.j → pos 0 ≤ℤ column_sum l.rows l.duals j
