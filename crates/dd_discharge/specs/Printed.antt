-- Bounds whose numbers can all be printed.
use Rattle.std.specs.{Prelude.ℕ, Prelude.◌≤◌, Prelude.List, Prelude.length, List.All}
use Rattle.dd_values.specs.Bounds.{most_number}
use Rattle.dd_discharge.specs.declared.bound.Bound.{Bound}

-- each number can be printed, the two denominators are at least 1, and there is at least one dual
pub record IsSmallBound (b : Bound) : Type 0 where
  pub numerator : b.numerator ≤ most_number
  pub denominator : (1 ≤ b.denominator) × (b.denominator ≤ most_number)
  pub common : (1 ≤ b.common) × (b.common ≤ most_number)
  pub amounts : All (λ n. n ≤ most_number) b.amounts
  pub duals : All (λ n. n ≤ most_number) b.duals
  pub some_dual : 1 ≤ length b.duals
