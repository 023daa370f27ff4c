-- The cells of boxes, as lists.
use Rattle.std.specs.{Prelude.ℕ, Prelude.List, Prelude.map, List.flat_map, List.range_with_len}
use Rattle.dd_lattice.specs.{Place.Place, Cells.cell, Boxes.centred, Boxes.positions_of, declared.position.Cell.Cell}
use Rattle.dd_formula.specs.LocalRule.{LocalRule}

-- the cells at these positions; if the positions are in order, so are the cells
abbrev pub cells_on : ℕ → List Place → List Cell
cells_on nodes ps = flat_map (λ p. map (cell p) (range_with_len 0 nodes)) ps

-- the cells of the box B(n)
abbrev pub box_cells : LocalRule → ℕ → List Cell
box_cells x n = cells_on x.nodes (positions_of (centred x.dimension n))
