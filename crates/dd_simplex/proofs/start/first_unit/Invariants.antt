use Rattle.std.proofs.Common.{◌≡◌, ℕ, ◌<◌, length}
use Rattle.dd_simplex.specs.Programs.{fraction_at, unit}
use Rattle.dd_simplex.proofs.start.first_unit.Given as goal

abbrev pub invariant-loop-j : goal.invariant-loop-j
invariant-loop-j l = record {
  size : length l.costs.items ≡ l.j;
  each : (i : ℕ) → i < l.j → fraction_at l.costs.items i ≡ unit 0 i;
}
