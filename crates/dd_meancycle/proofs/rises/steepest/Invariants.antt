use Rattle.std.proofs.Common.{◌≡◌, ℕ, ◌+◌, ◌-◌, ◌*◌, ◌<◌, ◌≤◌, Some}
use Rattle.dd_meancycle.specs.table.Levels.{level_weight_at}
use Rattle.dd_meancycle.proofs.rises.steepest.Given as goal

abbrev pub invariant-loop-k : goal.invariant-loop-k
invariant-loop-k l = record {
  above : (j before : ℕ) → j < l.k → level_weight_at l.levels j l.state ≡ Some before → l.end * l.best.length ≤ before * l.best.length + l.best.weight * (l.last - j);
  attained : (j : ℕ) × (before : ℕ) × (j < l.last) × (level_weight_at l.levels j l.state ≡ Some before) × (before + l.best.weight ≡ l.end) × (l.best.length + j ≡ l.last);
}
