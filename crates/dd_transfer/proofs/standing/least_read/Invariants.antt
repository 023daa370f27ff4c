use Rattle.std.proofs.Common.{◌≡◌, pos}
use Rattle.std.specs.List.{flat_map, range_with_len}
use Rattle.dd_formula.specs.LocalRule.{cells_at}
use Rattle.dd_counts.specs.Rules.{least_x}
use Rattle.dd_transfer.proofs.standing.least_read.Given as goal

abbrev pub invariant-loop-node : goal.invariant-loop-node
invariant-loop-node l = l.least ≡ least_x (pos 0) (flat_map (cells_at l.rule) (range_with_len 0 l.node))
