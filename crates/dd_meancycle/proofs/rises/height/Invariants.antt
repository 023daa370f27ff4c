use Rattle.std.proofs.Common.{◌≡◌, ℕ, ◌<◌, ◌≤◌, true, is_some}
use Rattle.dd_meancycle.specs.table.Levels.{level_weight_at}
use Rattle.dd_meancycle.proofs.rises.height.Given as goal

abbrev pub invariant-loop-k : goal.invariant-loop-k
invariant-loop-k l = record {
  below : l.height < l.last;
  here : is_some (level_weight_at l.levels l.height l.state) ≡ true;
  greatest : (j : ℕ) → j < l.k → is_some (level_weight_at l.levels j l.state) ≡ true → j ≤ l.height;
}
