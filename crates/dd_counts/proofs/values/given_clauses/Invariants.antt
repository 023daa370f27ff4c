use Rattle.std.proofs.Common.{◌≡◌, ◌+◌, map, take}
use Rattle.std.specs.List.{range_with_len}
use Rattle.dd_expansion.specs.Leaves.{total}
use Rattle.dd_formula.specs.{Counts.cut, ValueCounts.case_clauses}
use Rattle.dd_counts.proofs.values.given_clauses.Given as goal

abbrev pub invariant-loop-rule : goal.invariant-loop-rule
invariant-loop-rule l = record {
  choosing : l.choosing ≡ l.rule-index + 4;
  clauses : l.clauses ≡ cut l.limit (case_clauses (take l.rule-index l.cases.cases) l.node + total (map (λ i. i + 4) (range_with_len 0 l.rule-index)) + (2 + l.symbols));
}
