use Rattle.std.proofs.Common.{◌≡◌, ℕ, ◌<◌, take}
use Rattle.dd_fraction.specs.Checked.{IsFraction}
use Rattle.dd_simplex.specs.Programs.{fraction_at}
use Rattle.dd_simplex.proofs.start.copied.Given as goal

abbrev pub invariant-loop-i : goal.invariant-loop-i
invariant-loop-i l = record {
  same : l.copy.items ≡ take l.i l.fractions;
  each : (j : ℕ) → j < l.i → IsFraction (fraction_at l.fractions j);
}
