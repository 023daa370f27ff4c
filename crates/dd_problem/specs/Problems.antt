-- The clauses of a box question on a box and on a torus.
use Rattle.std.specs.Prelude.{ℕ, ◌+◌, ◌*◌, List, [], ◌∷◌, ◌++◌, map, length}
use Rattle.std.specs.List.{filter, range_with_len}
use Rattle.dd_lattice.specs.{Place.Place, Cells.cell, Cells.shifted, declared.position.Cell.Cell}
use Rattle.dd_clause.specs.{declared.clause.Literal.Literal, Clauses.ClauseList}
use Rattle.dd_circuit.specs.{declared.gates.Signal.Signal, Circuits.signal_of}
use Rattle.dd_compile.specs.Compiling.{Maker, made}
use Rattle.dd_pattern.specs.declared.periods.Periods.{Periods}
use Rattle.dd_formula.specs.LocalRule.{LocalRule, expansion_at}
use Rattle.dd_boxes.specs.{Goals.GoalOf, Goals.breaks, Goals.differ, Goals.always, Boxes.origin}
use Rattle.dd_problem.specs.{Layouts.Layout, Layouts.fits_in, Layouts.box_layout, pushing.Near.torus_layout, Differing.differ_made}
use Rattle.dd_problem.specs.Clauses.{input, cell_clauses, Part, part_gates, part_clauses, units, some_true, some_false}

-- the signal that says that the cell c, relative to v, has the symbol s of m symbols
abbrev pub wire : Layout → ℕ → Place → Cell → ℕ → Signal
wire l m v c s = signal_of (input m (l.index (shifted v c)) s)

-- the gates of a rule at a cell, over m symbols
abbrev pub place_maker : Layout → ℕ → LocalRule → Cell → Maker
place_maker l m r d = made (wire l m d.position) (expansion_at r d.node)

-- the part that says that the rule is true at the cell
abbrev pub premise_part : Layout → LocalRule → Cell → Part
premise_part l x d = record { makers = place_maker l x.symbols x d ∷ []; tail = units }

-- the part that says that the goal holds at the origin
abbrev pub goal_part : Layout → ℕ → GoalOf → Part
goal_part l m (breaks y) = record { makers = map (λ a. place_maker l m y (cell origin a)) (range_with_len 0 y.nodes); tail = some_false }
goal_part l m (differ s f g) =
    record { makers = map (λ a. differ_made s.symbols f g l.inputs (cell origin a)) (range_with_len 0 s.nodes); tail = some_true }
goal_part l m always = record { makers = []; tail = λ _. [] }

-- the parts of a problem: one for each of the places where the premise fits, in the order of the places, and then that of the goal
abbrev pub problem_parts : Layout → LocalRule → GoalOf → List Part
problem_parts l x g = map (premise_part l x) (filter (fits_in l x) l.places) ++ goal_part l x.symbols g ∷ []

-- the number of inputs
abbrev pub input_count : Layout → LocalRule → ℕ
input_count l x = length l.places * x.symbols

-- the clauses of the cells, and then those of the premise and the goal
abbrev pub problem_clauses : Layout → LocalRule → GoalOf → List (List Literal)
problem_clauses l x g = cell_clauses x l.places ++ part_clauses (input_count l x) (problem_parts l x g)

-- the whole clause list: its first variables are the inputs, and those of the gates follow
abbrev pub problem : Layout → LocalRule → GoalOf → ClauseList
problem l x g = record {
  variables = input_count l x + length (part_gates (input_count l x) (problem_parts l x g));
  clauses = problem_clauses l x g;
}

-- the clause list of the question on the box of radius n
abbrev pub box_problem : LocalRule → GoalOf → ℕ → ClauseList
box_problem x g n = problem (box_layout x n) x g

-- the clause list of the question on the torus of these periods
abbrev pub torus_problem : LocalRule → GoalOf → Periods → ClauseList
torus_problem x g periods = problem (torus_layout x g periods) x g
