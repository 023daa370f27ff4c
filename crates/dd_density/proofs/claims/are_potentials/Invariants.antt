use Rattle.std.proofs.Common.{ℕ, ◌<◌}
use Rattle.dd_density.specs.graphs.Shown.{IsRiseAlong}
use Rattle.dd_density.proofs.claims.are_potentials.Given as goal

abbrev pub invariant-loop-state : goal.invariant-loop-state
invariant-loop-state l = (u : ℕ) → u < l.state → (t : ℕ) → t < l.graph.slices → IsRiseAlong l.graph l.mean.numerator l.mean.denominator l.potentials u t
