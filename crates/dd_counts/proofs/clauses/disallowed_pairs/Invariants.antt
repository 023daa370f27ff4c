use Rattle.std.proofs.Common.{◌≡◌, ◌≤◌, ◌*◌, length}
use Rattle.dd_formula.specs.Counts.{over_nodes, disallowed}
use Rattle.dd_counts.proofs.clauses.disallowed_pairs.Given as goal

abbrev pub invariant-loop-node : goal.invariant-loop-node
invariant-loop-node l = record {
  count : l.count ≡ over_nodes (λ a. length (disallowed l.rule a)) l.node;
  few : l.count ≤ l.node * 16;
}
