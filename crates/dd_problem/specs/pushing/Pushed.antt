-- The clauses of a box question over any inputs, as the code makes them.
use Rattle.std.specs.Prelude.{ℕ, ◌+◌, ◌*◌, ◌≡◌, ◌&&◌, Bool, true, List, [], ◌∷◌, ◌++◌, map, length, Some}
use Rattle.std.specs.List.{list_all, filter, range_with_len}
use Rattle.dd_lattice.specs.{Place.Place, Cells.cell, declared.position.Cell.Cell}
use Rattle.dd_clause.specs.Clauses.{ClauseList}
use Rattle.dd_circuit.specs.{declared.gates.Signal.Signal, Circuits.IsSignal}
use Rattle.dd_compile.specs.Wiring.{Wiring, signals_of, wire_of}
use Rattle.dd_compile.specs.{Compiling.wires_near, Compiling.are_wired, Compiling.compiled, ValueSignals.are_wired_there}
use Rattle.dd_formula.specs.{LocalRule.LocalRule, LocalRule.expansion_at, Automata.CommonNumbers, Automata.counted}
use Rattle.dd_formula.specs.declared.automaton.Automaton.{Automaton}
use Rattle.dd_boxes.specs.{Goals.GoalOf, Goals.breaks, Goals.differ, Goals.always, Boxes.origin}
use Rattle.dd_problem.specs.Differing.{differ_made}
use Rattle.dd_problem.specs.Clauses.{cell_clauses, Part, part_gates, part_clauses, units, some_true, some_false}

-- the variable of each signal is one of the first n
abbrev pub AreInputs : ℕ → Wiring → Type 0
AreInputs n w = (c : Cell) (s : ℕ) (signal : Signal) → wire_of w c s ≡ Some signal → IsSignal n signal

-- each cell that has signals has m of them, one for each symbol
abbrev pub HasAllSymbols : ℕ → Wiring → Type 0
HasAllSymbols m w = (c : Cell) (signals : List Signal) → signals_of w c ≡ Some signals → length signals ≡ m

-- the rule is wired at the cell: each of its leaves there has its wire, whose variable is one of the first n
abbrev pub is_wired_at : Wiring → ℕ → LocalRule → Cell → Bool
is_wired_at w n x d = are_wired n (wires_near w d.position) (expansion_at x d.node)

-- the part that says that the rule is true at the cell
abbrev pub wired_part : Wiring → LocalRule → Cell → Part
wired_part w x d = record { makers = compiled w d.position (expansion_at x d.node) ∷ []; tail = units }

-- for each of the cells where the rule is wired, the part that says that it is true there
abbrev pub wired_parts : Wiring → ℕ → LocalRule → List Cell → List Part
wired_parts w n x cells = map (wired_part w x) (filter (is_wired_at w n x) cells)

-- the part that says that the rule is false at some node of the position
abbrev pub broken_part : Wiring → LocalRule → Place → Part
broken_part w y v = record { makers = map (λ a. compiled w v (expansion_at y a)) (range_with_len 0 y.nodes); tail = some_false }

-- the part that says that the values of two automata are different at some node of the origin
abbrev pub differ_part : Wiring → CommonNumbers → Automaton → Automaton → Part
differ_part w s f g = record { makers = map (λ a. differ_made s.symbols f g w (cell origin a)) (range_with_len 0 s.nodes); tail = some_true }

-- the part that says that the goal holds at the origin
abbrev pub wired_goal : Wiring → GoalOf → Part
wired_goal w (breaks y) = broken_part w y origin
wired_goal w (differ s f g) = differ_part w s f g
wired_goal w always = record { makers = []; tail = λ _. [] }

-- both automata are wired at the node a of the origin: each cell that they read there has its signals, whose variables are among the first n
abbrev pub are_both_wired : Wiring → ℕ → CommonNumbers → Automaton → Automaton → ℕ → Bool
are_both_wired w n s f g a =
    are_wired_there n s.symbols w ((counted f).reads a) (cell origin a) && are_wired_there n s.symbols w ((counted g).reads a) (cell origin a)

-- the goal is wired: at each node of the origin, its rule is wired, or both its automata are
abbrev pub is_goal_wired : Wiring → ℕ → GoalOf → Bool
is_goal_wired w n (breaks y) = list_all (λ a. is_wired_at w n y (cell origin a)) (range_with_len 0 y.nodes)
is_goal_wired w n (differ s f g) = list_all (are_both_wired w n s f g) (range_with_len 0 s.nodes)
is_goal_wired w n always = true

-- the whole clause list: the symbols of the cells, the premise, and the goal
abbrev pub wired_problem : Wiring → LocalRule → GoalOf → List Cell → ClauseList
wired_problem w x g cells =
    let n = length cells * x.symbols in
    let parts = wired_parts w n x cells ++ wired_goal w g ∷ [] in
    record { variables = n + length (part_gates n parts); clauses = cell_clauses x cells ++ part_clauses n parts }
