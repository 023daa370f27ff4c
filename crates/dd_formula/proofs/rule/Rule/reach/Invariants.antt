use Rattle.std.proofs.Common.{◌≡◌, ◌≤◌}
use Rattle.std.specs.List.{flat_map, range_with_len}
use Rattle.dd_formula.specs.{LocalRule.cells_at, Reach.farthest}
use Rattle.dd_formula.proofs.rule.Rule.reach.Given as goal

abbrev pub invariant-loop-node : goal.invariant-loop-node
invariant-loop-node l = record {
  value : l.radius ≡ farthest (flat_map (cells_at l.self) (range_with_len 0 l.node));
  near : l.radius ≤ 16;
}
