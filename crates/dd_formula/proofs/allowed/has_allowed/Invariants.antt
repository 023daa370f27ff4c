use Rattle.std.proofs.Common.{ℕ, ◌<◌}
use Rattle.dd_formula.specs.lemmas.AllowedTiles.{IsAllowedAt}
use Rattle.dd_formula.proofs.allowed.has_allowed.Given as goal

-- the symbols that the loop has tested so far are allowed
abbrev pub invariant-loop-number : goal.invariant-loop-number
invariant-loop-number l = (k : ℕ) → k < l.number → IsAllowedAt l.rule l.configuration k
