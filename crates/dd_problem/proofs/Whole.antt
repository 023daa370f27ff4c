-- The clauses of a whole problem, from those of its cells, its places and its goal.
use Rattle.std.proofs.Common.{◌≡◌, ℕ, ◌+◌, ◌*◌, ◌≤◌, true, List, [], ◌∷◌, ◌++◌, length, refl, ap, sym, ◌∙◌, arith}
use Rattle.std.proofs.lemmas.Bool.{and_parts, and_from}
use Rattle.dd_lattice.specs.{Cells.cell, declared.position.Cell.Cell}
use Rattle.dd_clause.specs.Clauses.{ClauseList}
use Rattle.dd_circuit.specs.Circuits.{size}
use Rattle.dd_compile.specs.{Wiring.Wiring, Compiling.wires_near, ValueSignals.are_wired_there, lemmas.Layers.wired_more}
use Rattle.dd_compile.specs.lemmas.StillWired.{still_wired}
use Rattle.dd_formula.specs.{Automata.counted, LocalRule.LocalRule, LocalRule.expansion_at, lemmas.ReachLaws.all_numbers}
use Rattle.dd_boxes.specs.{Boxes.origin, Goals.GoalOf, Goals.breaks, Goals.differ, Goals.always}
use Rattle.dd_problem.specs.Clauses.{Part, cell_clauses, part_gates, part_clauses}
use Rattle.dd_problem.specs.Encodings.{Encoding, clause_list, extended, over_inputs, with_parts}
use Rattle.dd_problem.specs.pushing.Pushed.{are_both_wired, is_wired_at, is_goal_wired, wired_parts, wired_goal, wired_problem}
use Rattle.dd_problem.specs.lemmas.Wiring.{range_at}
use Rattle.dd_problem.specs.lemmas.Growing.{same_encoding, extended_size, with_parts-append}

-- a goal that is wired with the first n variables is also wired with the first m, if m is not smaller
pub goal_wired_more : (w : Wiring) (n m : ℕ) (g : GoalOf) → n ≤ m → is_goal_wired w n g ≡ true → is_goal_wired w m g ≡ true
goal_wired_more w n m (breaks y) more h =
    all_numbers (λ a. is_wired_at w m y (cell origin a)) 0 y.nodes
    (λ a below. wired_more n m (wires_near w origin) (expansion_at y a) more (range_at (λ b. is_wired_at w n y (cell origin b)) y.nodes 0 a h (omega arith) below))
goal_wired_more w n m (differ s f g) more h =
    all_numbers (are_both_wired w m s f g) 0 s.nodes
    (λ a below. (let here = range_at (are_both_wired w n s f g) s.nodes 0 a h (omega arith) below in
    let both = and_parts (are_wired_there n s.symbols w ((counted f).reads a) (cell origin a)) (are_wired_there n s.symbols w ((counted g).reads a) (cell origin a)) here in
    and_from _ _ (still_wired n m s.symbols w (cell origin a) more ((counted f).reads a) both.0)
    (still_wired n m s.symbols w (cell origin a) more ((counted g).reads a) both.1)))
goal_wired_more w n m always more h = refl

module _ (w : Wiring) (x : LocalRule) (g : GoalOf) (cells : List Cell) where
  abbrev count : ℕ
  count = length cells * x.symbols

  -- before the first gate
  abbrev begun : Encoding
  begun = over_inputs (record { variables = count; clauses = cell_clauses x cells })

  abbrev places : List Part
  places = wired_parts w count x cells

  -- after the gates of all places
  abbrev placed : Encoding
  placed = with_parts begun places

  pub begins : (start : Encoding) (some cnf : ClauseList) → some.variables ≡ count → some.clauses ≡ [] → cnf.variables ≡ some.variables → cnf.clauses ≡ some.clauses ++ cell_clauses x cells →
      start ≡ over_inputs cnf → start ≡ begun
  begins start some cnf wide none same cell_by_cell is =
      let clauses : cnf.clauses ≡ cell_clauses x cells = cell_by_cell ∙ ap (λ cs. cs ++ cell_clauses x cells) none in
      is ∙ same_encoding (over_inputs cnf) begun (same ∙ wide) refl clauses

  module _ (start : Encoding) (begin : start ≡ begun) where
    begun_size : size begun.circuit ≡ count
    begun_size = omega arith

    list_of : (ps : List Part) → clause_list (with_parts begun ps) ≡ record { variables = count + length (part_gates count ps); clauses = cell_clauses x cells ++ part_clauses count ps }
    list_of ps = ap (λ k. clause_list (extended begun (part_gates k ps) (part_clauses k ps))) begun_size

    all_parts : with_parts placed (wired_goal w g ∷ []) ≡ with_parts begun (places ++ wired_goal w g ∷ [])
    all_parts = sym (with_parts-append begun places (wired_goal w g ∷ []))

    all_variables : size (with_parts placed (wired_goal w g ∷ [])).circuit ≡ (wired_problem w x g cells).variables
    all_variables = ap (λ (e : Encoding). size e.circuit) all_parts ∙ ap (λ (l : ClauseList). l.variables) (list_of (places ++ wired_goal w g ∷ []))

    -- there is room for the gates of all places
    pub places_room : (most : ℕ) → (wired_problem w x g cells).variables ≤ most → size (with_parts start (wired_parts w start.circuit.inputs x cells)).circuit ≤ most
    places_room most few =
        let same = ap (λ (e : Encoding). size (with_parts e (wired_parts w e.circuit.inputs x cells)).circuit) begin in
        let goal = extended_size placed (part_gates (size placed.circuit) (wired_goal w g ∷ [])) (part_clauses (size placed.circuit) (wired_goal w g ∷ [])) in
        omega (arith, same, goal, all_variables, few)

    module _ (now : Encoding) (steps : now ≡ with_parts start (wired_parts w start.circuit.inputs x cells)) where
      is_placed : now ≡ placed
      is_placed = steps ∙ ap (λ (e : Encoding). with_parts e (wired_parts w e.circuit.inputs x cells)) begin

      -- there is room for the goal's gates
      pub goal_room : (most : ℕ) → (wired_problem w x g cells).variables ≤ most → size (with_parts now (wired_goal w g ∷ [])).circuit ≤ most
      goal_room most few =
          let same = ap (λ (e : Encoding). size (with_parts e (wired_goal w g ∷ [])).circuit) is_placed in
          omega (arith, same, all_variables, few)

      pub goal_there : is_goal_wired w count g ≡ true → is_goal_wired w (size now.circuit) g ≡ true
      goal_there h =
          let same = ap (λ (e : Encoding). size e.circuit) is_placed in
          let more = extended_size begun (part_gates (size begun.circuit) places) (part_clauses (size begun.circuit) places) in
          goal_wired_more w count (size now.circuit) g (omega (arith, same, more, begun_size)) h

      -- after the goal's gates, all variables and clauses are there
      pub whole : (end : Encoding) (all : ClauseList) → end ≡ with_parts now (wired_goal w g ∷ []) → all ≡ clause_list end → all ≡ wired_problem w x g cells
      whole end all last is =
          is ∙ (ap clause_list (last ∙ (ap (λ e. with_parts e (wired_goal w g ∷ [])) is_placed ∙ all_parts)) ∙ list_of (places ++ wired_goal w g ∷ []))
