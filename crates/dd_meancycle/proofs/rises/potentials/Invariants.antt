use Rattle.std.proofs.Common.{◌≡◌, ℕ, ◌<◌, length, get_or}
use Rattle.dd_meancycle.specs.table.Rises.{IsPotential}
use Rattle.dd_meancycle.proofs.rises.potentials.Given as goal

abbrev pub invariant-loop-state : goal.invariant-loop-state
invariant-loop-state l = record {
  len : length l.potentials.items ≡ l.state;
  each : (v : ℕ) → v < l.state → IsPotential l.levels l.last v l.mean.weight l.mean.length (get_or l.potentials.items v 0);
}
