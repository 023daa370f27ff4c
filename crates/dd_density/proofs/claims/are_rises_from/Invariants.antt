use Rattle.std.proofs.Common.{ℕ, ◌<◌}
use Rattle.dd_density.specs.graphs.Shown.{IsRiseAlong}
use Rattle.dd_density.proofs.claims.are_rises_from.Given as goal

abbrev pub invariant-loop-slice : goal.invariant-loop-slice
invariant-loop-slice l = (t : ℕ) → t < l.slice → IsRiseAlong l.graph l.mean.numerator l.mean.denominator l.potentials l.state t
