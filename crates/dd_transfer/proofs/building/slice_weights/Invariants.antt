use Rattle.std.proofs.Common.{◌≡◌, ℕ, ◌<◌, length, get_or}
use Rattle.dd_strip.specs.Strips.{cells}
use Rattle.dd_transfer.specs.Transfers.{slice_weight}
use Rattle.dd_transfer.proofs.building.slice_weights.Given as goal

abbrev pub invariant-loop-slice : goal.invariant-loop-slice
invariant-loop-slice l = record {
  cells_are : length l.symbols.items ≡ cells l.fn.strip;
  each : length l.sums.items ≡ l.slice;
  weighs : (t : ℕ) → t < l.slice → get_or l.sums.items t 0 ≡ slice_weight l.rule l.fn.strip l.weights t;
}
