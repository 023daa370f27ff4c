use Rattle.std.proofs.Common.{◌≡◌, ℕ, ◌+◌, ◌-◌, ◌*◌, ◌<◌, ◌≤◌, Some}
use Rattle.dd_meancycle.specs.table.Levels.{level_weight_at}
use Rattle.dd_meancycle.proofs.rises.potential.Given as goal

abbrev pub invariant-loop-k : goal.invariant-loop-k
invariant-loop-k l = record {
  least : (j before : ℕ) → j < l.k → level_weight_at l.levels j l.state ≡ Some before → l.best ≤ l.mean.length * before + l.mean.weight * (l.last - j);
  attained : (j : ℕ) × (before : ℕ) × (j < l.last) × (level_weight_at l.levels j l.state ≡ Some before) × (l.best ≡ l.mean.length * before + l.mean.weight * (l.last - j));
}
