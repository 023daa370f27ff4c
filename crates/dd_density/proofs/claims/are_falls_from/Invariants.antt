use Rattle.std.proofs.Common.{ℕ, ◌<◌}
use Rattle.dd_density.specs.graphs.Shown.{IsFallAlong}
use Rattle.dd_density.proofs.claims.are_falls_from.Given as goal

abbrev pub invariant-loop-slice : goal.invariant-loop-slice
invariant-loop-slice l = (t : ℕ) → t < l.slice → IsFallAlong l.graph l.ranks l.state t
