-- The cells of a list in cell order, each once.
use Rattle.std.specs.{Prelude.◌↔◌, Prelude.List, Prelude.[], List.fold, List.Contains, BTreeSet.insert_key}
use Rattle.dd_lattice.specs.{declared.position.Cell.Cell, Order.cell_cmp}

abbrev pub in_order : List Cell → List Cell
in_order cs = fold (insert_key cell_cmp) [] cs

-- each cell of either list is also in the other; order and repetitions don't matter
abbrev pub HaveSameCells : List Cell → List Cell → Type 0
HaveSameCells cs ds = (c : Cell) → Contains cs c ↔ Contains ds c
