use Rattle.std.proofs.Common.{◌≡◌, ℕ, ◌<◌, length, get_or}
use Rattle.dd_meancycle.specs.table.Rises.{IsRank}
use Rattle.dd_meancycle.proofs.rises.ranks.Given as goal

abbrev pub invariant-loop-state : goal.invariant-loop-state
invariant-loop-state l = record {
  len : length l.ranks.items ≡ l.state;
  each : (v : ℕ) → v < l.state → IsRank l.levels l.last v (get_or l.ranks.items v 0);
}
