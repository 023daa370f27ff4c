use Rattle.std.proofs.Common.{ℕ, ◌<◌}
use Rattle.dd_transfer.proofs.Alphabets.{allowed_at}
use Rattle.dd_transfer.proofs.deciding.are_allowed.Given as goal

abbrev pub invariant-loop-place : goal.invariant-loop-place
invariant-loop-place l = (k : ℕ) → k < l.place → allowed_at l.rule l.window k
