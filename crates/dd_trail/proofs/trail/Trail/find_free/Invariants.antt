use Rattle.std.proofs.Common.{◌≡◌, ℕ, ◌+◌, ◌<◌, true}
use Rattle.dd_derivation.specs.Derivations.{has_variable}
use Rattle.dd_trail.specs.Trails.{falses}
use Rattle.dd_trail.proofs.trail.Trail.find_free.Given as goal

abbrev pub invariant-loop-i : goal.invariant-loop-i
invariant-loop-i l = (k : ℕ) → k < l.i → has_variable (k + 1) (falses l.self.entries) ≡ true
