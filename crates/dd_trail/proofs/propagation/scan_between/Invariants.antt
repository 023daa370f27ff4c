use Rattle.std.proofs.Common.{◌≡◌, ℕ, ◌<◌, ◌≤◌}
use Rattle.dd_derivation.specs.{declared.propagation.Finding.TheVariants.Open, Derivations.hint_finding, Derivations.is_among}
use Rattle.dd_trail.specs.Trails.{falses}
use Rattle.dd_trail.proofs.propagation.scan_between.Given as goal

abbrev pub invariant-loop-place : goal.invariant-loop-place
invariant-loop-place l = (r : ℕ) → l.from < r → r ≤ l.place → hint_finding l.database (is_among (falses l.trail.entries)) r ≡ Open
