use Rattle.std.proofs.Common.{◌≡◌, ℕ, ◌<◌, false, Some, get_or}
use Rattle.dd_trail.specs.declared.trail.Entry.{Entry}
use Rattle.dd_solver.proofs.deletion.spare_reasons.Given as goal

abbrev pub invariant-loop-entry : goal.invariant-loop-entry
invariant-loop-entry l = (k r : ℕ) (d : Entry) → k < l.entry-index → (get_or l.entries k d).reason ≡ Some r → get_or l.chosen r false ≡ false
