use Rattle.std.proofs.Common.{◌≡◌, ◌+◌, map}
use Rattle.std.specs.List.{range_with_len}
use Rattle.dd_expansion.specs.Leaves.{total}
use Rattle.dd_formula.specs.{Counts.cut, ValueCounts.differ_at}
use Rattle.dd_counts.proofs.values.differ_clauses.Given as goal

abbrev pub invariant-loop-node : goal.invariant-loop-node
invariant-loop-node l = l.sum ≡ cut l.limit (total (map (differ_at l.symbols l.first l.second) (range_with_len 0 l.node)) + 1)
