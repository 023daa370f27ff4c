use Rattle.std.proofs.Common.{ℕ, ◌<◌}
use Rattle.dd_density.specs.graphs.Shown.{IsFallAlong}
use Rattle.dd_density.proofs.claims.are_ranks.Given as goal

abbrev pub invariant-loop-state : goal.invariant-loop-state
invariant-loop-state l = (u : ℕ) → u < l.state → (t : ℕ) → t < l.graph.slices → IsFallAlong l.graph l.ranks u t
