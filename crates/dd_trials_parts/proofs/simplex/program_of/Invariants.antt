use Rattle.std.proofs.Common.{◌≡◌, ℕ}
use Rattle.dd_trials_parts.proofs.simplex.program_of.Given as goal

abbrev pub invariant-loop-row : goal.invariant-loop-row
invariant-loop-row l = l.program.columns ≡ l.columns
