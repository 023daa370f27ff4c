use Rattle.std.proofs.Common.{◌≡◌, true, map, take}
use Rattle.std.specs.List.{list_all}
use Rattle.dd_lattice.specs.InOrder.{in_order}
use Rattle.dd_expansion.specs.Leaves.{leaf_cells}
use Rattle.dd_formula.specs.LocalRule.{is_near}
use Rattle.dd_formula.proofs.making.reads_at_nodes.Given as goal

abbrev pub invariant-loop-expansion : goal.invariant-loop-expansion
invariant-loop-expansion l = record {
  made : l.reads ≡ map (λ e. in_order (leaf_cells e)) (take l.expansion-index l.expansions);
  near : list_all (λ e. list_all is_near (leaf_cells e)) (take l.expansion-index l.expansions) ≡ true;
}
