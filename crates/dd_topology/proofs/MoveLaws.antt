-- At most one edge with a given label leaves each node, so a move by a label leads to at most one cell. The edge that the move follows is found at
-- the move's index in the list of moves.
use Rattle.std.proofs.Common.{◌≡◌, ◌+◌, ◌<◌, ℕ, List, [], ◌∷◌, ◌++◌, Bool, true, false, ◌&&◌, map, length, get_or, take, Option, Some, None, Contains, refl, ap, sym, ◌∙◌, inl, inr, arith, true≢false, eq-eqb}
use Rattle.std.proofs.lemmas.Bool.{eqb-true, and_parts, and_from, cases_order}
use Rattle.std.proofs.lemmas.{Bool.Decides.nat_tests, List.take_more, List.get_or_default, List.map-append}
use Rattle.std.proofs.lemmas.List.{Folds.list_any_at, Quantifiers.all_pairs_push}
use Rattle.std.specs.Prelude.{◌==◌, MatchOption, find, position, slice_get, if◌then◌else◌}
use Rattle.std.specs.{List.list_any, Option.option_and_then, Option.option_map}
use Rattle.dd_lattice.specs.{Place.IsInRange, Place.is_in_range, declared.position.Cell.Cell, lemmas.RangeLaws.test_from_in_range}
use Rattle.dd_topology.specs.declared.edge.Edge.{Edge}
use Rattle.dd_topology.specs.Topology.{leaves, end_of, in_range, IsMove, starts_alike, AreSingle}
use Rattle.dd_topology.specs.{keeping.Kept.move_of, declared.topology.Move.Move}
use Rattle.dd_topology.specs.lemmas.ListLaws.{found, missed, list_any-map, position-map, find-position, find_alike, insert_key-new}
use Rattle.indexmap.specs.IndexSet.{insert_key}

pub starts_alike-flip : (e f : Edge) → starts_alike e f ≡ false → starts_alike f e ≡ false
starts_alike-flip e f h = grind (arith, nat_tests)

by_cases : {P : Type 0} (b : Bool) → (b ≡ true → P) → (b ≡ false → P) → P
by_cases true if_true if_false = if_true refl
by_cases false if_true if_false = if_false refl

-- `AreSingle` still holds after one more edge is added, if no edge before it has the same label and first node
pub single_more : (es : List Edge) (i : ℕ) (e : Edge) → i < length es → e ≡ get_or es i e → AreSingle (take i es) → list_any (starts_alike e) (take i es) ≡ false → AreSingle (take (i + 1) es)
single_more es i e within is before new =
    rw (take_more es i e within, ← is)
    (all_pairs_push (λ x y. starts_alike x y ≡ false) (take i es) e before (λ k d below.
    starts_alike-flip e (get_or (take i es) k d)
    (by_cases (starts_alike e (get_or (take i es) k d)) (λ same. absurd (true≢false (sym (list_any_at (starts_alike e) (take i es) k d below same) ∙ new))) (λ apart. apart))))

alike : (e f : Edge) → e.label ≡ f.label → e.from ≡ f.from → starts_alike e f ≡ true
alike e f label from = and_from _ _ (eq-eqb e.label f.label label) (eq-eqb e.from f.from from)

-- two edges with the same label and first node can't be at different indices
apart : (es : List Edge) → AreSingle es → (e f : Edge) (i j : ℕ) → i < j → j < length es → get_or es i e ≡ e → get_or es j f ≡ f → e.label ≡ f.label → e.from ≡ f.from → ⊥
apart es single e f i j before below is is' label from =
    let same : get_or es j e ≡ f = get_or_default es j e f below ∙ is' in
    true≢false (sym (alike e f label from) ∙ (ap (λ x. starts_alike e x) (sym same) ∙ (ap (λ x. starts_alike x (get_or es j e)) (sym is) ∙ single i j e before below)))

-- two edges with the same label and first node are the same edge
one_edge : (es : List Edge) → AreSingle es → (e f : Edge) → Contains es e → Contains es f → e.label ≡ f.label → e.from ≡ f.from → e ≡ f
one_edge es single e f (i, below, is) (j, below', is') label from =
    elim (cases_order i j) [
      | inl same ↦ sym is ∙ (get_or_default es i e f below ∙ (ap (λ k. get_or es k f) same ∙ is'))
      | inr (inl before) ↦ absurd (apart es single e f i j before below' is is' label from)
      | inr (inr after) ↦ absurd (apart es single f e j i after below is' is (sym label) (sym from))
    ]

-- a move by a label follows an edge that has the label and leaves the cell's node
follows : (es : List Edge) (c : Cell) (label : ℕ) (to : Cell) → (move : IsMove es c label to) → leaves c label move.0 ≡ true
follows es c label to move = and_from _ _ (eq-eqb _ label move.2) (eq-eqb _ c.node (sym move.3.0))

-- If an edge is found that has the label and leaves c's node, and its end is in range, a move by the label leads from c to that end. Otherwise no
-- move by the label leads from c to a cell in range.
pub move_exact : (es : List Edge) (c : Cell) (label : ℕ) → AreSingle es → (r : Option Edge) → find (leaves c label) es ≡ r →
    MatchOption (option_and_then in_range (option_map (end_of c) r)) ((to : Cell) → IsMove es c label to → ¬ IsInRange to.position) (IsMove es c label)
move_exact es c label single None h = λ to move near. true≢false (sym (follows es c label to move) ∙ missed (leaves c label) es move.0 h move.1)
move_exact es c label single (Some e) h =
    let at = found (leaves c label) es e h in
    let passes = and_parts _ _ at.1 in
    by_range (is_in_range (end_of c e).position) refl at.0 (eqb-true e.label label passes.0) (eqb-true e.from c.node passes.1)
  where
    by_range : (b : Bool) → is_in_range (end_of c e).position ≡ b → Contains es e → e.label ≡ label → e.from ≡ c.node →
        MatchOption (if b then Some (end_of c e) else None) ((to : Cell) → IsMove es c label to → ¬ IsInRange to.position) (IsMove es c label)
    by_range true within there is from = (e, there, is, (sym from, refl))
    by_range false without there is from = λ to move near.
        let same : e ≡ move.0 = one_edge es single e move.0 there move.1 (is ∙ sym move.2) (from ∙ move.3.0) in
        let arrives : to ≡ end_of c e = move.3.1 ∙ ap (end_of c) (sym same) in
        true≢false (sym (test_from_in_range to.position near) ∙ (ap (λ x. is_in_range x.position) arrives ∙ without))

-- whether two moves are equal
abbrev pub same_move : Move → Move → Bool
same_move m n = m.label == n.label && m.from == n.from

flip : (a b : ℕ) → (a == b) ≡ (b == a)
flip a b = grind (arith, nat_tests)

-- the edge that has the label and leaves c's node is found at the index of its move
pub found_by_move : (es : List Edge) (moves : List Move) → moves ≡ map move_of es → (c : Cell) (label : ℕ) (r : Option ℕ) →
    r ≡ position (same_move (record { label = label; from = c.node })) moves → option_and_then (slice_get es) r ≡ find (leaves c label) es
found_by_move es moves is c label r at =
    let m : Move = record { label = label; from = c.node } in
    ap (option_and_then (slice_get es)) (at ∙ (ap (position (same_move m)) is ∙ position-map move_of (same_move m) es))
    ∙ (sym (find-position (λ e. same_move m (move_of e)) es)
    ∙ find_alike (λ e. same_move m (move_of e)) (leaves c label) (λ e. ap (λ b. b && (c.node == e.from)) (flip label e.label) ∙ ap (λ b. (e.label == label) && b) (flip c.node e.from)) es)

-- if the move of the edge e is in the list of the moves of es, some edge of es has the same label and first node as e
pub repeats_from : (es : List Edge) (moves : List Move) (e : Edge) → moves ≡ map move_of es → list_any (same_move (move_of e)) moves ≡ true → list_any (starts_alike e) es ≡ true
repeats_from es moves e is h = sym (list_any-map move_of (same_move (move_of e)) es) ∙ (ap (list_any (same_move (move_of e))) (sym is) ∙ h)

pub new_from : (es : List Edge) (moves : List Move) (e : Edge) → moves ≡ map move_of es → list_any (same_move (move_of e)) moves ≡ false → list_any (starts_alike e) es ≡ false
new_from es moves e is h = sym (list_any-map move_of (same_move (move_of e)) es) ∙ (ap (list_any (same_move (move_of e))) (sym is) ∙ h)

pub moves_more : (es : List Edge) (i : ℕ) (moves : List Move) (e : Edge) → i < length es → e ≡ get_or es i e → moves ≡ map move_of (take i es) → list_any (same_move (move_of e)) moves ≡ false →
    insert_key same_move moves (move_of e) ≡ map move_of (take (i + 1) es)
moves_more es i moves e below is kept new =
    insert_key-new same_move (move_of e) moves new
    ∙ (ap (λ l. l ++ move_of e ∷ []) kept
    ∙ sym (ap (map move_of) (take_more es i e below ∙ ap (λ x. take i es ++ x ∷ []) (sym is)) ∙ map-append move_of (take i es) (e ∷ [])))
