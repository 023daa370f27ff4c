use Rattle.std.proofs.Common.{◌≡◌, false}
use Rattle.std.specs.{Prelude.nat_lt, List.list_any, List.range_with_len}
use Rattle.dd_counts.specs.Rules.{pattern_count, most_patterns}
use Rattle.dd_question.proofs.limits.has_many_patterns.Given as goal

abbrev pub invariant-loop-node : goal.invariant-loop-node
invariant-loop-node l = list_any (λ a. nat_lt most_patterns (pattern_count l.rule a)) (range_with_len 0 l.node) ≡ false
