-- What templates require of the cells and the inputs.
use Rattle.std.proofs.Common.{◌≡◌, ℕ, zero, suc, ◌*◌, ◌/◌, ◌<◌, ◌≤◌, Bool, true, false, List, [], ◌∷◌, map, length, get_or, refl, ap, sym, subst, ◌∙◌, arith, Some, None, option_map, eq-eqb}
use Rattle.std.proofs.lemmas.{Int.ints, Nat.div_below, Bool.and_from, Bool.le-leb}
use Rattle.std.proofs.lemmas.List.Elements.{All-get_or, All-map, All-weaker}
use Rattle.std.proofs.lemmas.List.FromFn.{length-map-range_with_len, get_or-map-range_with_len}
use Rattle.std.proofs.lemmas.Option.{slice_get-map}
use Rattle.std.specs.Prelude.{◌==◌, Option, if◌then◌else◌, slice_get, nat_le}
use Rattle.std.specs.{List.All, List.list_all, List.range_with_len, List.position_or_len, Ordering.is_eq}
use Rattle.dd_lattice.specs.{Order.cell_cmp, Place.Place, Place.moved, Place.is_in_range, Cells.shifted}
use Rattle.dd_lattice.specs.Boxes.{Bounds, IsAtMostOnEachAxis, IsWithin, centred, volume, place_in, is_active}
use Rattle.dd_lattice.specs.{declared.position.Cell.Cell, lemmas.BoxLaws.place_within, lemmas.BoxLaws.bounds_ordered}
use Rattle.dd_topology.specs.Topology.{extent}
use Rattle.dd_pattern.specs.{declared.periods.Periods.Periods, Tile.fundamental}
use Rattle.dd_expansion.specs.lemmas.LeafLaws.{leaves_weaken}
use Rattle.dd_formula.specs.{LocalRule.LocalRule, LocalRule.IsRule, LocalRule.expansion_at, lemmas.RuleLaws.leaves_pass_reads}
use Rattle.dd_circuit.specs.{declared.gates.Signal.Signal, Circuits.IsSignal, Circuits.signal_of}
use Rattle.dd_compile.specs.{Wiring.Wiring, Wiring.signal_for, Wiring.signals_of, Compiling.is_wire, Compiling.wires_near}
use Rattle.dd_compile.specs.RuleSignals.{is_signal, are_signals, are_reads_wired}
use Rattle.dd_compile.specs.{Templates.RuleAt, Templates.rule_at, lemmas.RuleWiring.leaves_wired}
use Rattle.dd_boxes.specs.{Goals.GoalOf, Counts.question_clauses, Counts.most_clauses, TorusPeriods.AreTorusPeriods, Cells.box_cells}
use Rattle.dd_problem.specs.{Clauses.input, Layouts.nth_cell, Layouts.cells_in, Layouts.torus_cells}
use Rattle.dd_problem.specs.pushing.Numbered.{symbol_signals, numbered_wiring}
use Rattle.dd_problem.specs.{pushing.Pushed.AreInputs, pushing.Pushed.HasAllSymbols, pushing.Pushed.is_wired_at, lemmas.Filtered.some_same}
use Rattle.dd_problem.specs.lemmas.TorusSizes.{AreSizes, torus_sizes}
use Rattle.dd_problem.specs.lemmas.{CellOrder.cells_by_number, CellOrder.All-range, Counting.positions_below}
use Rattle.dd_problem.proofs.{BoxInputs.volume_wide, BoxInputs.spread_most, PlacesLeft.wired_same}
use Rattle.dd_values.specs.lemmas.Booleans.{same_bool}

all_signals : (n m : ℕ) (ss : List Signal) → n ≤ m → ((i : ℕ) (signal : Signal) → slice_get ss i ≡ Some signal → IsSignal n signal) → list_all (is_signal m) ss ≡ true
all_signals n m [] more h = refl
all_signals n m (s ∷ ss) more h =
    let one = h zero s refl in
    and_from (is_signal m s) (list_all (is_signal m) ss)
    (and_from (nat_le 1 s.variable) (nat_le s.variable m) (le-leb 1 s.variable one.0) (le-leb s.variable m (omega (arith, one.1, more))))
    (all_signals n m ss more (λ i signal is. h (suc i) signal is))

-- a cell that has a wire for one symbol has a wire for each symbol
row_full : (n m k : ℕ) (b : Bool) (o : Option (List Signal)) (s : ℕ) → n ≤ m → ((ss : List Signal) → o ≡ Some ss → length ss ≡ k) →
    ((i : ℕ) (signal : Signal) → signal_for o i ≡ Some signal → IsSignal n signal) → is_wire m (if b then signal_for o s else None) ≡ true → are_signals m k o ≡ true
row_full n m k false o s more full fit h = absurd (cc)
row_full n m k true None s more full fit h = absurd (cc)
row_full n m k true (Some ss) s more full fit h =
    and_from (length ss == k) (list_all (is_signal m) ss) (eq-eqb (length ss) k (full ss refl)) (all_signals n m ss more fit)

-- the cells that a rule reads have all their signals exactly when each leaf of the rule has its wire
pub same_reads : (n m : ℕ) (w : Wiring) (x : LocalRule) (d : Cell) → IsRule x → d.node < x.nodes → extent d.position ≤ 1048560 → AreInputs n w → HasAllSymbols x.symbols w → n ≤ m →
    are_reads_wired m w x d ≡ is_wired_at w m x d
same_reads n m w x d rule node near ok full more =
    let v = d.position in
    same_bool (are_reads_wired m w x d) (is_wired_at w m x d) (leaves_wired m w x rule d node near)
    (λ h.
    sym (leaves_pass_reads x rule.symbols.0 d.node (λ c. are_signals m x.symbols (signals_of w (shifted v c))))
    ∙ leaves_weaken (expansion_at x d.node) (λ c s. is_wire m (wires_near w v c s)) (λ c s. are_signals m x.symbols (signals_of w (shifted v c)))
    (λ c s.
    row_full n m x.symbols (is_in_range (moved c.position v)) (signals_of w (shifted v c)) s more (full (shifted v c)) (ok (shifted v c)))
    h)

-- if the inputs are among the first n variables and n ≤ m, `are_reads_wired m` tells whether the rule is wired at d with the first n variables
-- (`is_wired_at`)
pub reads_tell : (n m : ℕ) (w : Wiring) (x : LocalRule) (d : Cell) (b r : Bool) → IsRule x → d.node < x.nodes → extent d.position ≤ 1048560 → AreInputs n w → HasAllSymbols x.symbols w → n ≤ m →
    r ≡ are_reads_wired m w x d → r ≡ b → is_wired_at w n x d ≡ b
reads_tell n m w x d b r rule node near ok full more said told =
    sym (wired_same n m w x d ok more) ∙ (sym (same_reads n m w x d rule node near ok full more) ∙ (sym said ∙ told))

-- the template of a node stands at its number
template_at : (x : LocalRule) (ts : List RuleAt) (k : ℕ) (t : RuleAt) → ts ≡ map (rule_at x) (range_with_len 0 x.nodes) → k < x.nodes → t ≡ get_or ts k t → t ≡ rule_at x k
template_at x ts k t are below is = is ∙ (ap (λ (us : List RuleAt). get_or us k t) are ∙ get_or-map-range_with_len (rule_at x) 0 x.nodes k k t below (omega arith))

template_count : (x : LocalRule) (ts : List RuleAt) → ts ≡ map (rule_at x) (range_with_len 0 x.nodes) → length ts ≡ x.nodes
template_count x ts are = ap length are ∙ length-map-range_with_len (rule_at x) 0 x.nodes

node_below : (x : LocalRule) (cells : List Cell) (i : ℕ) (d : Cell) → All (λ (c : Cell). c.node < x.nodes) cells → i < length cells → d ≡ get_or cells i d → d.node < x.nodes
node_below x cells i d nodes h here =
    subst (λ (c : Cell). c.node < x.nodes) (sym here) (All-get_or (λ (c : Cell). c.node < x.nodes) cells i d h nodes)

-- there is a template for each cell's node
pub node_there : (x : LocalRule) (ts : List RuleAt) (cells : List Cell) (i : ℕ) (d : Cell) → ts ≡ map (rule_at x) (range_with_len 0 x.nodes) →
    All (λ (c : Cell). c.node < x.nodes) cells → i < length cells → d ≡ get_or cells i d → d.node < length ts
node_there x ts cells i d are nodes h here = omega (arith, node_below x cells i d nodes h here, template_count x ts are)

pub node_template : (x : LocalRule) (ts : List RuleAt) (cells : List Cell) (i : ℕ) (d : Cell) (t : RuleAt) → ts ≡ map (rule_at x) (range_with_len 0 x.nodes) →
    All (λ (c : Cell). c.node < x.nodes) cells → i < length cells → d ≡ get_or cells i d → t ≡ get_or ts d.node t → t ≡ rule_at x d.node
node_template x ts cells i d t are nodes h here is = template_at x ts d.node t are (node_below x cells i d nodes h here) is

turn_full : (m : ℕ) (o : Option ℕ) (ss : List Signal) → option_map (symbol_signals m) o ≡ Some ss → length ss ≡ m
turn_full m None ss h = absurd (cc)
turn_full m (Some k) ss h = ap length (some_same ss (symbol_signals m k) (sym h)) ∙ length-map-range_with_len (λ s. signal_of (input m k s)) 0 m

-- inputs that are made by number have one signal for each symbol
pub numbered_full : (m : ℕ) (cells : List Cell) (numbers : List ℕ) → HasAllSymbols m (numbered_wiring m cells numbers)
numbered_full m cells numbers c ss is =
    let j = position_or_len (λ d. is_eq (cell_cmp d c)) cells in
    turn_full m (slice_get numbers j) ss (sym (slice_get-map (symbol_signals m) numbers j) ∙ is)

-- the cells of a box lie in it
cells_within : (b : Bounds) (m : ℕ) → IsAtMostOnEachAxis b.low b.high → 0 < m → All (λ (c : Cell). IsWithin b c.position) (cells_in b m)
cells_within b m o some =
    subst (All (λ (c : Cell). IsWithin b c.position)) (sym (cells_by_number b m))
    (All-map (λ (c : Cell). IsWithin b c.position) (nth_cell b m) (range_with_len 0 (volume b * m))
    (All-range (λ k. IsWithin b (place_in b (k / m))) (volume b * m) 0 (λ k low high. place_within b (k / m) o (div_below k m (volume b) some (omega arith)))))

near_box : (d n : ℕ) (p : Place) → n ≤ 1048560 → IsWithin (centred d n) p → extent p ≤ 1048560
near_box d n p small h =
    let x = spread_most (is_active d 0) n in
    let y = spread_most (is_active d 1) n in
    let z = spread_most (is_active d 2) n in
    let l = h.0 in
    let u = h.1 in
    omega (arith, ints, x, y, z, l.on_x, l.on_y, l.on_z, u.on_x, u.on_y, u.on_z, small)

pub box_near : (x : LocalRule) (g : GoalOf) (n : ℕ) (cells : List Cell) → IsRule x → question_clauses x g (volume (centred x.dimension n)) ≤ most_clauses → cells ≡ box_cells x n →
    All (λ (d : Cell). extent d.position ≤ 1048560) cells
box_near x g n cells rule few read =
    let b = centred x.dimension n in
    let wide = volume_wide x.dimension n rule.dimension.0 in
    let positions = positions_below x g (volume b) rule.nodes.0 in
    let small : n ≤ 1048560 = omega (arith, wide, positions, few) in
    subst (All (λ (d : Cell). extent d.position ≤ 1048560)) (sym read)
    (All-weaker (λ (c : Cell). IsWithin b c.position) (λ (d : Cell). extent d.position ≤ 1048560) (λ c h. near_box x.dimension n c.position small h) (box_cells x n)
    (cells_within b x.nodes (bounds_ordered x.dimension n) rule.nodes.0))

near_torus : (x : LocalRule) (p : Periods) (v : Place) → AreSizes x p → IsWithin (fundamental p) v → extent v ≤ 1048560
near_torus x p v sizes h =
    let l = h.0 in
    let u = h.1 in
    omega (arith, ints, l.on_x, l.on_y, l.on_z, u.on_x, u.on_y, u.on_z, sizes.x_most, sizes.y_most, sizes.z_most)

ordered_torus : (p : Periods) → IsAtMostOnEachAxis (fundamental p).low (fundamental p).high
ordered_torus p = record { on_x = omega (arith, ints); on_y = omega (arith, ints); on_z = omega (arith, ints) }

pub torus_near : (x : LocalRule) (p : Periods) (cells : List Cell) → IsRule x → AreTorusPeriods x.dimension x.nodes p → cells ≡ torus_cells x p → All (λ (d : Cell). extent d.position ≤ 1048560) cells
torus_near x p cells rule ok read =
    let b = fundamental p in
    subst (All (λ (d : Cell). extent d.position ≤ 1048560)) (sym read)
    (All-weaker (λ (c : Cell). IsWithin b c.position) (λ (d : Cell). extent d.position ≤ 1048560) (λ c h. near_torus x p c.position (torus_sizes x p rule ok) h) (torus_cells x p)
    (cells_within b x.nodes (ordered_torus p) rule.nodes.0))
