use Rattle.std.proofs.Common.{take, ℕ}
use Rattle.std.specs.List.{All}
use Rattle.dd_formula.specs.LocalRule.{LocalRule, IsRule}
use Rattle.dd_compile.proofs.laws.rules_are_kept.Given as goal

abbrev pub invariant-loop-rule : goal.invariant-loop-rule
invariant-loop-rule l = All (λ (x : LocalRule × ℕ). IsRule x.0) (take l.rule-index l.cases.cases)
