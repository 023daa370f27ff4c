-- If wires give each cell of a layout the inputs of its number, the clauses over these wires are those of the layout.
use Rattle.std.proofs.Common.{◌≡◌, ℕ, zero, suc, ◌+◌, ◌*◌, ◌<◌, Bool, true, false, List, [], ◌∷◌, ◌++◌, map, length, refl, ap, sym, ◌∙◌, arith, Some, None}
use Rattle.std.proofs.lemmas.Bool.{and_parts, and_from, ltb-true, le-leb}
use Rattle.std.specs.Prelude.{cond, ◌&&◌, Option, nat_lt, slice_get}
use Rattle.std.specs.List.{list_all, filter, range_with_len}
use Rattle.dd_lattice.specs.{Place.Place, Cells.cell, Cells.shifted, declared.position.Cell.Cell}
use Rattle.dd_circuit.specs.{declared.gates.Signal.Signal, Circuits.signal_of}
use Rattle.dd_expansion.specs.{declared.expanded.Expanded.Expanded, Terms.origin_at, Leaves.leaves_pass}
use Rattle.dd_expansion.specs.lemmas.{LeafLaws.leaves_both, LeafLaws.leaves_weaken, LeavesAreReads.leaves_are_reads}
use Rattle.dd_compile.specs.Wiring.{Wiring}
use Rattle.dd_compile.specs.Compiling.{made, wires_near, is_wire, certain, compiled, wire_or_zero}
use Rattle.dd_compile.specs.{lemmas.MadeCount.made_same, ValueSignals.are_wired_there}
use Rattle.dd_formula.specs.{LocalRule.LocalRule, LocalRule.IsRule, LocalRule.reads_at, LocalRule.expansion_at, Automata.counted, lemmas.ReachLaws.all_numbers}
use Rattle.dd_boxes.specs.{Goals.GoalOf, Goals.breaks, Goals.differ, Goals.always, Boxes.origin}
use Rattle.dd_problem.specs.{pushing.GoalFacts.HasGoalFacts, Layouts.Layout, Layouts.fits_in}
use Rattle.dd_problem.specs.Clauses.{input, Part, cell_clauses, part_gates, part_clauses, units, some_true, some_false}
use Rattle.dd_problem.specs.Problems.{wire, place_maker, premise_part, goal_part, input_count, problem}
use Rattle.dd_problem.specs.{Differing.differ_made, lemmas.ValueWires.GoalWired, lemmas.ValueWires.value_is_wired}
use Rattle.dd_problem.specs.pushing.Pushed.{are_both_wired, is_wired_at, is_goal_wired, wired_part, wired_parts, wired_goal, wired_problem}
use Rattle.dd_problem.specs.lemmas.{RangesLeft.row_within, Reading.IsLayout, Wiring.HasReads}
use Rattle.dd_values.specs.lemmas.Booleans.{same_bool}

-- For each cell c, relative to v, that passes the test p: its wires are its inputs if the layout has it, and it has no wires otherwise.
abbrev pub Gives : Wiring → Layout → ℕ → (Cell → Bool) → Place → Type 0
Gives w l m p v = (c : Cell) (s : ℕ) → p c ≡ true → s < m → wires_near w v c s ≡ cond (l.has (shifted v c)) (Some (wire l m v c s)) None

abbrev asked : (Cell → Bool) → ℕ → Cell → ℕ → Bool
asked p m c s = p c && nat_lt s m

wire_has : (n : ℕ) (o : Option Signal) (b : Bool) (x : Signal) → o ≡ cond b (Some x) None → is_wire n o ≡ true → b ≡ true
wire_has n o true x is h = refl
wire_has n o false x is h = absurd (let e = sym (ap (is_wire n) is) ∙ h in cc)

has_wire : (n : ℕ) (o : Option Signal) (b : Bool) (x : Signal) → o ≡ cond b (Some x) None → b ≡ true → is_wire n (Some x) ≡ true → is_wire n o ≡ true
has_wire n o b x is h k = ap (is_wire n) (is ∙ ap (λ a. cond a (Some x) None) h) ∙ k

wire_is : (o : Option Signal) (b : Bool) (x : Signal) → o ≡ cond b (Some x) None → b ≡ true → wire_or_zero o ≡ x
wire_is o b x is h = ap wire_or_zero (is ∙ ap (λ a. cond a (Some x) None) h)

input_is_wire : (n m k s : ℕ) → k < n → s < m → is_wire (n * m) (Some (signal_of (input m k s))) ≡ true
input_is_wire n m k s h below = and_from _ _ (le-leb 1 (suc (k * m + s)) (omega arith)) (le-leb (suc (k * m + s)) (n * m) (let row = row_within m k n h in omega (arith, row)))

module _ (w : Wiring) (l : Layout) (m : ℕ) (p : Cell → Bool) (v : Place) (layout : IsLayout l) (gives : Gives w l m p v) where
  abbrev there : Cell → ℕ → Bool
  there c s = l.has (shifted v c)

  abbrev wired : Cell → ℕ → Bool
  wired c s = is_wire (length l.places * m) (wires_near w v c s)

  wired_there : (c : Cell) (s : ℕ) → (wired c s && asked p m c s) ≡ true → there c s ≡ true
  wired_there c s h =
      let both = and_parts (wired c s) (asked p m c s) h in
      let ask = and_parts (p c) (nat_lt s m) both.1 in
      wire_has (length l.places * m) (wires_near w v c s) (there c s) (wire l m v c s) (gives c s ask.0 (ltb-true s m ask.1)) both.0

  there_wired : (c : Cell) (s : ℕ) → (there c s && asked p m c s) ≡ true → wired c s ≡ true
  there_wired c s h =
      let both = and_parts (there c s) (asked p m c s) h in
      let ask = and_parts (p c) (nat_lt s m) both.1 in
      let below = ltb-true s m ask.1 in
      has_wire (length l.places * m) (wires_near w v c s) (there c s) (wire l m v c s) (gives c s ask.0 below) both.0
      (input_is_wire (length l.places) m (l.index (shifted v c)) s (layout.within (shifted v c) both.0) below)

  wired_as_there : (e : Expanded) → leaves_pass (asked p m) e ≡ true → leaves_pass wired e ≡ leaves_pass there e
  wired_as_there e ask =
      same_bool (leaves_pass wired e) (leaves_pass there e)
      (λ h. leaves_weaken e (λ c s. wired c s && asked p m c s) there wired_there (leaves_both e wired (asked p m) ∙ and_from _ _ h ask))
      (λ h. leaves_weaken e (λ c s. there c s && asked p m c s) wired there_wired (leaves_both e there (asked p m) ∙ and_from _ _ h ask))

  same_wire : (c : Cell) (s : ℕ) → (there c s && asked p m c s) ≡ true → certain (wires_near w v) c s ≡ wire l m v c s
  same_wire c s h =
      let both = and_parts (there c s) (asked p m c s) h in
      let ask = and_parts (p c) (nat_lt s m) both.1 in
      wire_is (wires_near w v c s) (there c s) (wire l m v c s) (gives c s ask.0 (ltb-true s m ask.1)) both.0

  made_there : (e : Expanded) → leaves_pass (asked p m) e ≡ true → leaves_pass there e ≡ true → compiled w v e ≡ made (wire l m v) e
  made_there e ask h =
      λ i n. made_same e (λ c s. there c s && asked p m c s) (certain (wires_near w v)) (wire l m v) n same_wire (leaves_both e there (asked p m) ∙ and_from _ _ h ask) i

-- if the cells that a rule reads at a node pass the test p, so do the cells of its leaves there; and the leaves' symbols are in the alphabet
asks : (r : LocalRule) (m : ℕ) (p : Cell → Bool) (a : ℕ) → IsRule r → m ≡ r.symbols → a < r.nodes → list_all p (reads_at r a) ≡ true → leaves_pass (asked p m) (expansion_at r a) ≡ true
asks r m p a ok same node reads =
    leaves_both (expansion_at r a) (λ c s. p c) (λ c s. nat_lt s m)
    ∙ and_from _ _ (leaves_are_reads r.edges r.symbols ok.symbols.0 r.formula (origin_at a ∷ []) p ∙ reads)
    (ap (λ n. leaves_pass (λ c s. nat_lt s n) (expansion_at r a)) same ∙ ok.known a node)

reads_there : (l : Layout) (r : LocalRule) (d : Cell) → IsRule r → leaves_pass (λ c s. l.has (shifted d.position c)) (expansion_at r d.node) ≡ list_all (λ c. l.has (shifted d.position c)) (reads_at r d.node)
reads_there l r d ok = leaves_are_reads r.edges r.symbols ok.symbols.0 r.formula (origin_at d.node ∷ []) (λ c. l.has (shifted d.position c))

-- The cells that the rule reads at d pass the test p. The wires of the cells that pass it, relative to d's position, are as `Gives` says.
pub record Matches (w : Wiring) (l : Layout) (m : ℕ) (p : Cell → Bool) (r : LocalRule) (d : Cell) : Type 0 where
  pub node : d.node < r.nodes
  pub gives : Gives w l m p d.position
  pub reads : list_all p (reads_at r d.node) ≡ true

pub same_test : (w : Wiring) (l : Layout) (m : ℕ) (p : Cell → Bool) (r : LocalRule) (d : Cell) → IsRule r → m ≡ r.symbols → IsLayout l → Matches w l m p r d →
    is_wired_at w (length l.places * m) r d ≡ fits_in l r d
same_test w l m p r d ok same layout match =
    wired_as_there w l m p d.position layout match.gives (expansion_at r d.node) (asks r m p d.node ok same match.node match.reads) ∙ reads_there l r d ok

pub same_maker : (w : Wiring) (l : Layout) (m : ℕ) (p : Cell → Bool) (r : LocalRule) (d : Cell) → IsRule r → m ≡ r.symbols → IsLayout l → Matches w l m p r d →
    fits_in l r d ≡ true → compiled w d.position (expansion_at r d.node) ≡ place_maker l m r d
same_maker w l m p r d ok same layout match fit =
    made_there w l m p d.position layout match.gives (expansion_at r d.node) (asks r m p d.node ok same match.node match.reads) (reads_there l r d ok ∙ fit)

kept_same : (a b : Cell → Part) (d : Cell) (t u : Bool) (ds es : List Cell) → t ≡ u → (u ≡ true → a d ≡ b d) → map a ds ≡ map b es →
    map a (cond t (d ∷ ds) ds) ≡ map b (cond u (d ∷ es) es)
kept_same a b d t true ds es test here rest = rw test (λ i. here refl i ∷ rest i)
kept_same a b d t false ds es test here rest = rw test rest

-- if at each cell the wires and the layout give the same part of the premise, or both give none, they give the same parts
parts_same : (w : Wiring) (l : Layout) (x : LocalRule) (n : ℕ) (cells : List Cell) →
    ((k : ℕ) (d : Cell) → slice_get cells k ≡ Some d → (is_wired_at w n x d ≡ fits_in l x d) × (fits_in l x d ≡ true → wired_part w x d ≡ premise_part l x d)) →
    wired_parts w n x cells ≡ map (premise_part l x) (filter (fits_in l x) cells)
parts_same w l x n [] h = refl
parts_same w l x n (d ∷ ds) h =
    let here = h 0 d refl in
    kept_same (wired_part w x) (premise_part l x) d (is_wired_at w n x d) (fits_in l x d) (filter (is_wired_at w n x) ds) (filter (fits_in l x) ds) here.0 here.1
    (parts_same w l x n ds (λ k e is. h (suc k) e is))

range_same : {X : Type 0} (f g : ℕ → X) (n a : ℕ) → ((k : ℕ) → k < a + n → f k ≡ g k) → map f (range_with_len a n) ≡ map g (range_with_len a n)
range_same f g zero a h = refl
range_same f g (suc n) a h = λ i. h a (omega arith) i ∷ range_same f g n (a + 1) (λ k below. h k (omega arith)) i

-- the wires of what the goal reads at the origin are the layout's inputs
abbrev pub GoalMatches : Wiring → Layout → ℕ → (Cell → Bool) → GoalOf → Type 0
GoalMatches w l m p (breaks y) = (a : ℕ) → a < y.nodes → Matches w l m p y (cell origin a)
GoalMatches w l m p (differ s f g) = w ≡ l.inputs
GoalMatches w l m p always = Unit {0}

goal_same : (w : Wiring) (l : Layout) (x : LocalRule) (p : Cell → Bool) (g : GoalOf) → HasGoalFacts x g → IsLayout l → HasReads l g → GoalMatches w l x.symbols p g →
    wired_goal w g ≡ goal_part l x.symbols g
goal_same w l x p (breaks y) ok layout reads match =
    let makers = range_same (λ a. compiled w origin (expansion_at y a)) (λ a. place_maker l x.symbols y (cell origin a)) y.nodes 0
    (λ a below. (let node : a < y.nodes = omega arith in same_maker w l x.symbols p y (cell origin a) ok.0 (sym ok.1.symbols) layout (match a node) (reads a node))) in
    λ i. record { makers = makers i; tail = some_false }
goal_same w l x p (differ s f g) ok layout reads match =
    λ i. record { makers = map (λ a. differ_made s.symbols f g (match i) (cell origin a)) (range_with_len 0 s.nodes); tail = some_true }
goal_same w l x p always ok layout reads match = refl

pub goal_is_wired : (w : Wiring) (l : Layout) (x : LocalRule) (p : Cell → Bool) (g : GoalOf) → HasGoalFacts x g → IsLayout l → HasReads l g → GoalWired l x.symbols g → GoalMatches w l x.symbols p g →
    is_goal_wired w (length l.places * x.symbols) g ≡ true
goal_is_wired w l x p (breaks y) ok layout reads values match =
    all_numbers (λ a. is_wired_at w (length l.places * x.symbols) y (cell origin a)) 0 y.nodes
    (λ a below. (let node : a < y.nodes = omega arith in same_test w l x.symbols p y (cell origin a) ok.0 (sym ok.1.symbols) layout (match a node) ∙ reads a node))
goal_is_wired w l x p (differ s f g) ok layout reads values match =
    let n = length l.places * x.symbols in
    let same = ap (λ k. length l.places * k) values.symbols in
    all_numbers (are_both_wired w n s f g) 0 s.nodes
    (λ a below. (let node : a < s.nodes = omega arith in
    and_from _ _
    (ap (λ v. are_wired_there n s.symbols v ((counted f).reads a) (cell origin a)) match ∙ value_is_wired l layout.within s f values.left a node n (omega (arith, same)))
    (ap (λ v. are_wired_there n s.symbols v ((counted g).reads a) (cell origin a)) match ∙ value_is_wired l layout.within s g values.right a node n (omega (arith, same)))))
goal_is_wired w l x p always ok layout reads values match = refl

-- the whole clause list over the wires is that of the layout
pub wired_is_problem : (w : Wiring) (l : Layout) (x : LocalRule) (p : Cell → Cell → Bool) (q : Cell → Bool) (g : GoalOf) → IsRule x → HasGoalFacts x g → IsLayout l → HasReads l g →
    ((k : ℕ) (d : Cell) → slice_get l.places k ≡ Some d → Matches w l x.symbols (p d) x d) → GoalMatches w l x.symbols q g → wired_problem w x g l.places ≡ problem l x g
wired_is_problem w l x p q g rule ok layout reads places goal =
    let n = input_count l x in
    let premise = parts_same w l x n l.places (λ k d is. (let match = places k d is in
    (same_test w l x.symbols (p d) x d rule refl layout match, λ fit. same_part d (same_maker w l x.symbols (p d) x d rule refl layout match fit)))) in
    let last = goal_same w l x q g ok layout reads goal in
    λ i. (let parts : List Part = premise i ++ last i ∷ [] in
    record { variables = n + length (part_gates n parts); clauses = cell_clauses x l.places ++ part_clauses n parts })
  where
    same_part : (d : Cell) → compiled w d.position (expansion_at x d.node) ≡ place_maker l x.symbols x d → wired_part w x d ≡ premise_part l x d
    same_part d h = λ i. record { makers = h i ∷ []; tail = units }
