-- What the parts of a problem say, if the inputs tell the symbols of a look-up. A look-up gives cells their symbols.
use Rattle.std.proofs.Common.{◌≡◌, ℕ, zero, suc, ◌+◌, ◌*◌, ◌<◌, ◌≤◌, arith, Bool, true, false, List, [], ◌∷◌, ◌++◌, map, length, refl, ap, sym, ◌∙◌, Some, None}
use Rattle.std.proofs.lemmas.{Bool.and_parts, Bool.ltb-true, List.map-append}
use Rattle.std.proofs.lemmas.List.Folds.{list_all-append, list_all-map}
use Rattle.std.specs.Prelude.{not, ◌&&◌, ◌||◌, ◌==◌, Option, nat_lt}
use Rattle.std.specs.List.{list_all, list_any, filter, range_with_len}
use Rattle.dd_lattice.specs.{Place.Place, Cells.cell, Cells.shifted, declared.position.Cell.Cell}
use Rattle.dd_pattern.specs.Reading.{Look, HasSymbolsBelow}
use Rattle.dd_expansion.specs.{Truth.is_symbol, Leaves.leaves_pass, lemmas.ListTests.list_any-map, lemmas.TruthAt.says_at}
use Rattle.dd_formula.specs.{LocalRule.LocalRule, LocalRule.is_true, LocalRule.expansion_at, Automata.CommonNumbers, Automata.value}
use Rattle.dd_formula.specs.declared.automaton.Automaton.{Automaton}
use Rattle.dd_clause.specs.Clauses.{is_true_under as is_literal_true}
use Rattle.dd_circuit.specs.{declared.gates.Signal.Signal, Circuits.signal_value, Circuits.agrees, lemmas.ValueLaws.agrees-append}
use Rattle.dd_cnf.specs.{Encoding.literal_of, Encoding.opposing, Models.is_satisfied}
use Rattle.dd_compile.specs.{Compiling.all_made, Compiling.Maker, lemmas.MadeSays.Tell, lemmas.MadeSays.made_says}
use Rattle.dd_boxes.specs.{Goals.GoalOf, Goals.breaks, Goals.differ, Goals.always, Boxes.origin}
use Rattle.dd_problem.specs.Layouts.{Layout, fits_in}
use Rattle.dd_problem.specs.Clauses.{input, Part, part_gates, some_true, some_false}
use Rattle.dd_problem.specs.Problems.{wire, place_maker, premise_part, goal_part, problem_parts, input_count}
use Rattle.dd_problem.specs.{Differing.differ_made, lemmas.Parts.tests, lemmas.Parts.PartSays, lemmas.Parts.tests_law}
use Rattle.dd_problem.specs.lemmas.ValueWires.{AreValuesWired, GoalWired, differ_gates_say}
use Rattle.dd_values.specs.lemmas.Booleans.{and_true, or_false, if_not}

-- the inputs of the layout's cells say which symbols the look-up gives these cells
abbrev pub InputsTell : (ℕ → Bool) → Layout → ℕ → Look → Type 0
InputsTell set l m look = (c : Cell) (s : ℕ) → l.has c ≡ true → s < m → set (input m (l.index c) s) ≡ is_symbol s (look c)

-- the number of each cell of the layout is less than the count of the layout's places
abbrev pub IsNumbered : Layout → Type 0
IsNumbered l = (c : Cell) → l.has c ≡ true → l.index c < length l.places

-- a leaf has its input: its cell c, relative to v, has inputs, and its symbol s is one of the m symbols
abbrev pub has_input : Layout → ℕ → Place → Cell → ℕ → Bool
has_input l m v c s = l.has (shifted v c) && nat_lt s m

abbrev pub reads_inputs : Layout → ℕ → LocalRule → Cell → Bool
reads_inputs l m r d = leaves_pass (has_input l m d.position) (expansion_at r d.node)

tells_near : (set : ℕ → Bool) (l : Layout) (m : ℕ) (look : Look) (v : Place) → InputsTell set l m look →
    Tell set (wire l m v) (has_input l m v) (λ c. look (shifted v c))
tells_near set l m look v tell c s h =
    let both = and_parts (l.has (shifted v c)) (nat_lt s m) h in
    tell (shifted v c) s both.0 (ltb-true s m both.1)

-- the gates of a rule at a cell say whether the rule is true there
pub place_says : (set : ℕ → Bool) (l : Layout) (m : ℕ) (look : Look) (r : LocalRule) (d : Cell) (n : ℕ) → HasSymbolsBelow r.symbols look → InputsTell set l m look →
    reads_inputs l m r d ≡ true → agrees set n (place_maker l m r d n).gates ≡ true → signal_value set (place_maker l m r d n).signal ≡ is_true r d look
place_says set l m look r d n below tell wired ok =
    made_says (expansion_at r d.node) set (wire l m d.position) (has_input l m d.position) (λ c. look (shifted d.position c)) n
    (tells_near set l m look d.position tell) wired ok
    ∙ says_at r.edges r.symbols r.formula look d.position d.node below

-- the same at several nodes of a position
all_say : (set : ℕ → Bool) (l : Layout) (m : ℕ) (look : Look) (r : LocalRule) (v : Place) (nodes : List ℕ) (n : ℕ) → HasSymbolsBelow r.symbols look → InputsTell set l m look →
    list_all (λ a. reads_inputs l m r (cell v a)) nodes ≡ true → agrees set n (all_made (map (λ a. place_maker l m r (cell v a)) nodes) n).gates ≡ true →
    map (signal_value set) (all_made (map (λ a. place_maker l m r (cell v a)) nodes) n).signals ≡ map (λ a. is_true r (cell v a) look) nodes
all_say set l m look r v [] n below tell wired ok = refl
all_say set l m look r v (a ∷ nodes) n below tell wired ok =
    let w = and_parts (reads_inputs l m r (cell v a)) (list_all (λ b. reads_inputs l m r (cell v b)) nodes) wired in
    let gs = (place_maker l m r (cell v a) n).gates in
    let hs = (all_made (map (λ b. place_maker l m r (cell v b)) nodes) (n + length gs)).gates in
    let both = and_parts (agrees set n gs) (agrees set (n + length gs) hs) (sym (agrees-append set n gs hs) ∙ ok) in
    rw (place_says set l m look r (cell v a) n below tell w.0 both.0, all_say set l m look r v nodes (n + length gs) below tell w.1 both.1) refl

one_unit : (b : Bool) → ((b || false) && true) ≡ b
one_unit b = and_true (b || false) ∙ or_false b

opposing_is : (set : ℕ → Bool) (s : Signal) → is_literal_true set (opposing s) ≡ not (signal_value set s)
opposing_is set s = if_not s.positive (set s.variable)

any_opposing : (set : ℕ → Bool) (ss : List Signal) → list_any (is_literal_true set) (map opposing ss) ≡ list_any not (map (signal_value set) ss)
any_opposing set [] = refl
any_opposing set (s ∷ ss) = rw (opposing_is set s, any_opposing set ss) refl

some_false_law : (set : ℕ → Bool) (ss : List Signal) → is_satisfied set (some_false ss) ≡ list_any not (map (signal_value set) ss)
some_false_law set ss = and_true (list_any (is_literal_true set) (map opposing ss)) ∙ any_opposing set ss

-- the goal at the origin, as a test
abbrev pub goal_holds : GoalOf → Look → Bool
goal_holds (breaks y) look = list_any (λ a. not (is_true y (cell origin a) look)) (range_with_len 0 y.nodes)
goal_holds (differ s f g) look = list_any (λ a. not (value f look (cell origin a) == value g look (cell origin a))) (range_with_len 0 s.nodes)
goal_holds always look = true

abbrev pub goal_reads : Layout → ℕ → GoalOf → Bool
goal_reads l m (breaks y) = list_all (λ a. reads_inputs l m y (cell origin a)) (range_with_len 0 y.nodes)
goal_reads l m (differ s f g) = true
goal_reads l m always = true

abbrev pub HasItsSymbols : GoalOf → Look → Type 0
HasItsSymbols (breaks y) look = HasSymbolsBelow y.symbols look
HasItsSymbols (differ s f g) look = HasSymbolsBelow s.symbols look
HasItsSymbols always look = Unit {0}

-- the gates that say whether the values of two automata are different at a node of the origin
abbrev pub differ_at : Layout → CommonNumbers → Automaton → Automaton → ℕ → Maker
differ_at l s f g a = differ_made s.symbols f g l.inputs (cell origin a)

-- what the parts are about, one after the other: the places where the premise fits, and then `None` for the goal
abbrev pub jobs : Layout → LocalRule → List (Option Cell)
jobs l x = map (λ d. Some d) (filter (fits_in l x) l.places) ++ None ∷ []

abbrev pub job_part : Layout → LocalRule → GoalOf → Option Cell → Part
job_part l x g (Some d) = premise_part l x d
job_part l x g None = goal_part l x.symbols g

some_parts : (l : Layout) (x : LocalRule) (g : GoalOf) (ds : List Cell) → map (job_part l x g) (map (λ d. Some d) ds) ≡ map (premise_part l x) ds
some_parts l x g [] = refl
some_parts l x g (d ∷ ds) = ap (λ ps. premise_part l x d ∷ ps) (some_parts l x g ds)

pub parts_by_jobs : (l : Layout) (x : LocalRule) (g : GoalOf) → map (job_part l x g) (jobs l x) ≡ problem_parts l x g
parts_by_jobs l x g =
    map-append (job_part l x g) (map (λ d. Some d) (filter (fits_in l x) l.places)) (None ∷ [])
    ∙ ap (λ ps. ps ++ goal_part l x.symbols g ∷ []) (some_parts l x g (filter (fits_in l x) l.places))

abbrev pub job_holds : LocalRule → GoalOf → Look → Option Cell → Bool
job_holds x g look (Some d) = is_true x d look
job_holds x g look None = goal_holds g look

abbrev pub job_reads : Layout → LocalRule → GoalOf → Option Cell → Bool
job_reads l x g (Some d) = reads_inputs l x.symbols x d
job_reads l x g None = goal_reads l x.symbols g

-- the signals say at which nodes of the origin two values are different
differ_nodes : (set : ℕ → Bool) (l : Layout) (m : ℕ) (s : CommonNumbers) (f g : Automaton) (look : Look) → IsNumbered l → AreValuesWired l m s f g → HasSymbolsBelow s.symbols look → InputsTell set l m look →
    (k j n : ℕ) → j + k ≤ s.nodes → length l.places * m ≤ n → agrees set n (all_made (map (differ_at l s f g) (range_with_len j k)) n).gates ≡ true →
    map (signal_value set) (all_made (map (differ_at l s f g) (range_with_len j k)) n).signals ≡
    map (λ a. not (value f look (cell origin a) == value g look (cell origin a))) (range_with_len j k)
differ_nodes set l m s f g look within wired below tell zero j n few le ok = refl
differ_nodes set l m s f g look within wired below tell (suc k) j n few le ok =
    let gs = (differ_at l s f g j n).gates in
    let hs = (all_made (map (differ_at l s f g) (range_with_len (j + 1) k)) (n + length gs)).gates in
    let both = and_parts (agrees set n gs) (agrees set (n + length gs) hs) (sym (agrees-append set n gs hs) ∙ ok) in
    let here = differ_gates_say l within m s f g wired j (omega arith) n le set look below tell both.0 in
    let rest = differ_nodes set l m s f g look within wired below tell k (j + 1) (n + length gs) (omega arith) (omega arith) both.1 in
    λ i. here i ∷ rest i

some_true_law : (set : ℕ → Bool) (ss : List Signal) → is_satisfied set (some_true ss) ≡ list_any (λ b. b) (map (signal_value set) ss)
some_true_law set ss = and_true (list_any (is_literal_true set) (map literal_of ss)) ∙ any_true ss
  where
    any_true : (ts : List Signal) → list_any (is_literal_true set) (map literal_of ts) ≡ list_any (λ b. b) (map (signal_value set) ts)
    any_true [] = refl
    any_true (t ∷ ts) = ap (λ b. signal_value set t || b) (any_true ts)

goal_says : (set : ℕ → Bool) (l : Layout) (m : ℕ) (g : GoalOf) (look : Look) → IsNumbered l → GoalWired l m g → HasItsSymbols g look → InputsTell set l m look → goal_reads l m g ≡ true →
    PartSays set (length l.places * m) (goal_part l m g) (goal_holds g look)
goal_says set l m (differ s f g) look within values below tell wired n le ok =
    some_true_law set (all_made (map (differ_at l s f g) (range_with_len 0 s.nodes)) n).signals
    ∙ (ap (list_any (λ b. b)) (differ_nodes set l m s f g look within values below tell s.nodes 0 n (omega arith) le ok)
    ∙ list_any-map (λ b. b) (λ a. not (value f look (cell origin a) == value g look (cell origin a))) (range_with_len 0 s.nodes))
goal_says set l m (breaks y) look within values below tell wired n le ok =
    some_false_law set (all_made (map (λ a. place_maker l m y (cell origin a)) (range_with_len 0 y.nodes)) n).signals
    ∙ (ap (list_any not) (all_say set l m look y origin (range_with_len 0 y.nodes) n below tell wired ok)
    ∙ list_any-map not (λ a. is_true y (cell origin a) look) (range_with_len 0 y.nodes))
goal_says set l m always look within values below tell wired n le ok = refl

pub job_says : (set : ℕ → Bool) (l : Layout) (x : LocalRule) (g : GoalOf) (look : Look) → HasSymbolsBelow x.symbols look → IsNumbered l → GoalWired l x.symbols g → HasItsSymbols g look → InputsTell set l x.symbols look →
    (j : Option Cell) → job_reads l x g j ≡ true → PartSays set (input_count l x) (job_part l x g j) (job_holds x g look j)
job_says set l x g look below within values goal_below tell (Some d) wired n le ok =
    let gs = (place_maker l x.symbols x d n).gates in
    let both = and_parts (agrees set n gs) (agrees set (n + length gs) []) (sym (agrees-append set n gs []) ∙ ok) in
    one_unit (signal_value set (place_maker l x.symbols x d n).signal) ∙ place_says set l x.symbols look x d n below tell wired both.0
job_says set l x g look below within values goal_below tell None wired n le ok = goal_says set l x.symbols g look within values goal_below tell wired n le ok

-- the premise is true at all places where it fits
abbrev pub premise_holds : Layout → LocalRule → Look → Bool
premise_holds l x look = list_all (λ d. is_true x d look) (filter (fits_in l x) l.places)

-- all parts together say that the premise is true at all places where it fits, and that the goal holds at the origin
pub parts_say : (set : ℕ → Bool) (l : Layout) (x : LocalRule) (g : GoalOf) (look : Look) → HasSymbolsBelow x.symbols look → IsNumbered l → GoalWired l x.symbols g → HasItsSymbols g look → InputsTell set l x.symbols look →
    list_all (job_reads l x g) (jobs l x) ≡ true → agrees set (input_count l x) (part_gates (input_count l x) (problem_parts l x g)) ≡ true →
    tests set (input_count l x) (problem_parts l x g) ≡ (premise_holds l x look && goal_holds g look)
parts_say set l x g look below within values goal_below tell wired ok =
    let n = input_count l x in
    let as_jobs : agrees set n (part_gates n (map (job_part l x g) (jobs l x))) ≡ true = ap (λ ps. agrees set n (part_gates n ps)) (parts_by_jobs l x g) ∙ ok in
    ap (tests set n) (sym (parts_by_jobs l x g))
    ∙ (tests_law set n (job_part l x g) (job_reads l x g) (job_holds x g look) (job_says set l x g look below within values goal_below tell) (jobs l x) n (omega arith) wired as_jobs
    ∙ (list_all-append (job_holds x g look) (map (λ d. Some d) (filter (fits_in l x) l.places)) (None ∷ [])
    ∙ rw (list_all-map (job_holds x g look) (λ d. Some d) (filter (fits_in l x) l.places), and_true (goal_holds g look)) refl))
