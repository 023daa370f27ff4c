use Rattle.std.proofs.Common.{◌≡◌, ◌≤◌, length}
use Rattle.std.specs.{Prelude.not, List.filter, List.range_with_len}
use Rattle.dd_formula.specs.LocalRule.{rule_allows}
use Rattle.dd_counts.proofs.clauses.disallowed_at.Given as goal

abbrev pub invariant-loop-symbol : goal.invariant-loop-symbol
invariant-loop-symbol l = record {
  count : l.count ≡ length (filter (λ s. not (rule_allows l.rule l.node s)) (range_with_len 0 l.symbol));
  few : l.count ≤ l.symbol;
}
