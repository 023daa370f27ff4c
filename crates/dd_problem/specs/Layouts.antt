-- Which cells have inputs, and in which order.
use Rattle.std.specs.{Prelude.ℕ, Prelude.◌+◌, Prelude.◌*◌, Prelude.◌/◌, Prelude.◌%◌, Prelude.Bool, Prelude.List, Prelude.[], List.list_all}
use Rattle.dd_lattice.specs.{Cells.cell, Cells.shifted, Boxes.Bounds, Boxes.centred, Boxes.index_in, Boxes.place_in, Boxes.positions_of}
use Rattle.dd_lattice.specs.declared.position.Cell.{Cell}
use Rattle.dd_pattern.specs.{declared.periods.Periods.Periods, Tile.Tile, Tile.tile, Tile.fundamental}
use Rattle.dd_formula.specs.LocalRule.{LocalRule, reads_at}
use Rattle.dd_boxes.specs.{Cells.box_cells, Cells.cells_on, Fillings.is_box_cell}
use Rattle.dd_compile.specs.Wiring.{Wiring}
use Rattle.dd_problem.specs.pushing.Numbered.{in_turn}

-- which cells have inputs, the numbers of these cells, and their inputs
pub record Layout : Type 0 where
  -- whether a cell has inputs
  pub has : Cell → Bool
  -- the number of a cell with inputs, from 0; on a torus, cells that are equal modulo the periods share one number
  pub index : Cell → ℕ
  -- the places: the cells of the box, or of the fundamental box, in the order of their numbers
  pub places : List Cell
  -- the cells that may be read, each with its inputs as signals
  pub inputs : Wiring

-- the cells of a box of positions in cell order, in which the nodes of a position stand together
abbrev pub cells_in : Bounds → ℕ → List Cell
cells_in b nodes = cells_on nodes (positions_of b)

-- the cell with the number k; the cells are numbered from 0 in cell order
abbrev pub nth_cell : Bounds → ℕ → ℕ → Cell
nth_cell b nodes k = cell (place_in b (k / nodes)) (k % nodes)

-- the number of a cell of B(n), the box of radius n round the origin, from 0 in cell order
abbrev pub box_index : LocalRule → ℕ → Cell → ℕ
box_index x n c = index_in (centred x.dimension n) c.position * x.nodes + c.node

-- the layout of B(n)
abbrev pub box_layout : LocalRule → ℕ → Layout
box_layout x n = record { has = is_box_cell x n; index = box_index x n; places = box_cells x n; inputs = in_turn x.symbols (box_cells x n) }

-- the dimension, periods and nodes of the torus, as a `Tile` without symbols; it serves to number the torus's cells
abbrev pub torus : LocalRule → Periods → Tile
torus x periods = tile x.dimension periods x.nodes []

-- the cells of the fundamental box, in cell order
abbrev pub torus_cells : LocalRule → Periods → List Cell
torus_cells x periods = cells_in (fundamental periods) x.nodes

-- the rule fits at the cell d: each cell that it reads there has inputs
abbrev pub fits_in : Layout → LocalRule → Cell → Bool
fits_in l x d = list_all (λ c. l.has (shifted d.position c)) (reads_at x d.node)
