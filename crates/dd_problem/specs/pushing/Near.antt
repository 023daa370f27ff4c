-- The cells that may be read on a torus, and the layout of the torus.
use Rattle.std.specs.Prelude.{ℕ, nat_lt, ◌*◌, List, map, ◌++◌, slice_index}
use Rattle.std.specs.List.{flat_map, range_with_len}
use Rattle.dd_lattice.specs.{Cells.shifted, InOrder.in_order, declared.position.Cell.Cell}
use Rattle.dd_pattern.specs.{declared.periods.Periods.Periods, Periods.periods_volume, Tile.Tile, Tile.tile, Tile.tile_index}
use Rattle.dd_compile.specs.Wiring.{Wiring}
use Rattle.dd_formula.specs.LocalRule.{LocalRule, cells_at}
use Rattle.dd_boxes.specs.{Cells.box_cells, Goals.GoalOf, Boxes.goal_reach}
use Rattle.dd_problem.specs.{Layouts.Layout, Layouts.torus, Layouts.torus_cells, pushing.Numbered.numbered_wiring}

-- the cells that a rule reads at a cell
abbrev pub read_cells : LocalRule → Cell → List Cell
read_cells x d = map (shifted d.position) (cells_at x d.node)

-- The cells that the premise reads at the given cells, and the cells of the box of the goal's least radius. The list is in cell order and has each
-- cell once.
abbrev pub near_cells : LocalRule → GoalOf → List Cell → List Cell
near_cells x g cells = in_order (box_cells x (goal_reach g) ++ flat_map (read_cells x) cells)

-- the number that a periodic configuration has at a cell, in place of a symbol
abbrev pub number_at : Tile → Cell → ℕ
number_at t c = slice_index t.symbols (tile_index t c)

-- each of the cells, with the inputs of the number that the configuration has at this cell
abbrev pub numbered_by : ℕ → Tile → List Cell → Wiring
numbered_by m t cells = numbered_wiring m cells (map (number_at t) cells)

-- the configuration in which each cell of the fundamental box has its number, from 0 in cell order
abbrev pub numbered_tile : LocalRule → Periods → Tile
numbered_tile x periods = tile x.dimension periods x.nodes (range_with_len 0 (periods_volume periods * x.nodes))

-- the cells near those of the fundamental box, as `near_cells` lists them, each with the inputs of the cell of the fundamental box that it equals
-- modulo the periods
abbrev pub torus_inputs : LocalRule → GoalOf → Periods → Wiring
torus_inputs x g periods = numbered_by x.symbols (numbered_tile x periods) (near_cells x g (torus_cells x periods))

-- the layout of the torus: each cell with one of the rule's nodes has the number of the cell of the fundamental box that it equals modulo the periods
abbrev pub torus_layout : LocalRule → GoalOf → Periods → Layout
torus_layout x g periods = record {
  has = λ c. nat_lt c.node x.nodes;
  index = tile_index (torus x periods);
  places = torus_cells x periods;
  inputs = torus_inputs x g periods;
}
