use Rattle.std.proofs.Common.{◌≡◌, ◌<◌, ℕ, get_or, true, false}
use Rattle.dd_derivation.proofs.refutation.revive.Given as goal

abbrev pub invariant-loop-is_alive : goal.invariant-loop-is_alive
invariant-loop-is_alive l = (k : ℕ) → k < l.is_alive-index → get_or l.alive k false ≡ true
