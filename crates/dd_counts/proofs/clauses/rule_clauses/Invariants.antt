use Rattle.std.proofs.Common.{◌≡◌}
use Rattle.dd_expansion.specs.Leaves.{clause_count}
use Rattle.dd_formula.specs.{LocalRule.expansion_at, Counts.cut, Counts.over_nodes}
use Rattle.dd_counts.proofs.clauses.rule_clauses.Given as goal

abbrev pub invariant-loop-node : goal.invariant-loop-node
invariant-loop-node l = l.clauses ≡ cut l.limit (over_nodes (λ a. clause_count (expansion_at l.rule a)) l.node)
