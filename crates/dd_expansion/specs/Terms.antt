-- Terms, which name cells, and balls, which are sets of cells. The environment lists the cells of the variables in scope, in the order of the
-- variables' numbers.
use Rattle.std.specs.Prelude.{ℕ, ◌==◌, ◌&&◌, Bool, false, List, [], ◌∷◌, Option, Some, None, slice_get, pos}
use Rattle.std.specs.{List.flat_map, Option.option_and_then}
use Rattle.dd_lattice.specs.{Place.place, Cells.cell, declared.position.Cell.Cell}
use Rattle.dd_topology.specs.{declared.edge.Edge.Edge, Topology.step, Balls.ball, Balls.same_place}
use Rattle.dd_expansion.specs.declared.formulas.{Term.Term, BallOf.BallOf}

-- the cell at the end of several moves, made one after another; none if there is no edge for one of them
abbrev pub walk : List Edge → Cell → List ℕ → Option Cell
walk es c [] = Some c
walk es c (label ∷ labels) = option_and_then (λ d. walk es d labels) (step es c label)

-- the cell that a term names; none if its variable is not in scope, or if there is no edge for one of its moves
abbrev pub cell_of : List Edge → List Cell → Term → Option Cell
cell_of es env t = option_and_then (λ c. walk es c t.moves) (slice_get env t.variable)

-- a test of one cell, or of two cells; false if a cell is missing
abbrev pub on_cell : (Cell → Bool) → Option Cell → Bool
on_cell p None = false
on_cell p (Some c) = p c

abbrev pub on_cells : (Cell → Cell → Bool) → Option Cell → Option Cell → Bool
on_cells p None d = false
on_cells p (Some c) d = on_cell (p c) d

abbrev pub same_cell : Cell → Cell → Bool
same_cell c d = same_place c.position d.position && c.node == d.node

-- the ball of radius r round a cell; empty if the cell is missing
abbrev pub ball_round : List Edge → ℕ → Option Cell → List Cell
ball_round es r None = []
ball_round es r (Some c) = ball es c r

-- the cells of several balls, one ball after another, with repeats
abbrev pub balls_of : List Edge → List Cell → List BallOf → List Cell
balls_of es env bs = flat_map (λ b. ball_round es b.radius (slice_get env b.variable)) bs

-- the cell of a node at the origin
abbrev pub origin_at : ℕ → Cell
origin_at a = cell (place (pos 0) (pos 0) (pos 0)) a
