use Rattle.std.proofs.Common.{◌<◌, ℕ}
use Rattle.dd_formula.proofs.LivesLaws.{true_in}
use Rattle.dd_formula.proofs.rule.Rule.member.Given as goal

-- the rule is true at each cell of the fundamental box before this one
abbrev pub invariant-loop-number : goal.invariant-loop-number
invariant-loop-number l = (k : ℕ) → k < l.number → true_in l.self l.periodic k
