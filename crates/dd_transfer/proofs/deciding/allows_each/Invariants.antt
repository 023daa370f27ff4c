use Rattle.std.proofs.Common.{◌≡◌, ℕ, ◌<◌, true}
use Rattle.dd_formula.specs.LocalRule.{rule_allows}
use Rattle.dd_transfer.proofs.deciding.allows_each.Given as goal

abbrev pub invariant-loop-symbol : goal.invariant-loop-symbol
invariant-loop-symbol l = (s : ℕ) → s < l.symbol → rule_allows l.rule l.node s ≡ true
