use Rattle.std.proofs.Common.{◌≡◌, take}
use Rattle.std.specs.{List.fold, List.flat_map, BTreeSet.insert_key}
use Rattle.dd_lattice.specs.Order.{cell_cmp}
use Rattle.dd_expansion.specs.Leaves.{leaf_cells}
use Rattle.dd_expansion.proofs.leaves.+add_cells.Given as goal

abbrev pub invariant-add_all_cells-loop-part : goal.invariant-add_all_cells-loop-part
invariant-add_all_cells-loop-part l = l.found.keys ≡ fold (insert_key cell_cmp) l.initial.found.keys (flat_map leaf_cells (take l.part-index l.parts))
