-- The symbols for which a satisfying assignment stands.
use Rattle.std.proofs.Common.{◌≡◌, ℕ, zero, suc, ◌+◌, ◌<◌, Bool, true, false, List, [], ◌∷◌, map, length, get_or, eq-eqb, refl, ap, sym, subst, ◌∙◌, arith, Some, None}
use Rattle.std.proofs.lemmas.{Bool.and_parts, Option.slice_get_within, Option.get_or_from_slice_get}
use Rattle.std.proofs.lemmas.List.Folds.{list_all-append}
use Rattle.std.proofs.lemmas.List.FromFn.{get_or-map-range_with_len, length-map-range_with_len}
use Rattle.std.specs.Prelude.{cond, not, ◌==◌, Option, IfSome, slice_get}
use Rattle.std.specs.List.{All, list_all, list_any, range_with_len, position_or_len}
use Rattle.dd_lattice.specs.declared.position.Cell.{Cell}
use Rattle.dd_pattern.specs.Reading.{Look, HasSymbolsBelow}
use Rattle.dd_expansion.specs.Truth.{is_symbol}
use Rattle.dd_formula.specs.{LocalRule.LocalRule, LocalRule.rule_allows, Allowed.AreAllowed, Counts.disallowed}
use Rattle.dd_clause.specs.{declared.clause.Literal.Literal, Clauses.is_clause_true}
use Rattle.dd_circuit.specs.Circuits.{agrees}
use Rattle.dd_cnf.specs.Models.{is_satisfied}
use Rattle.dd_boxes.specs.Goals.{GoalOf}
use Rattle.dd_problem.specs.Layouts.{Layout}
use Rattle.dd_problem.specs.Clauses.{input, inputs_of, one_hot, none_of, symbol_clauses, clauses_from, cell_clauses, part_gates, part_clauses}
use Rattle.dd_problem.specs.Problems.{problem_parts, problem_clauses, input_count}
use Rattle.dd_problem.specs.Symbols.{AreSymbols, AreRead, layout_look}
use Rattle.dd_problem.specs.lemmas.Filtered.{some_same, slice_of_range, none_at}
use Rattle.dd_problem.specs.lemmas.OneHot.{one_hot_law, at_most_one, hot_at, hot_below}
use Rattle.dd_problem.specs.lemmas.{Parts.tests, Parts.parts_law, ValueWires.GoalWired}
use Rattle.dd_problem.specs.lemmas.Parted.{InputsTell, goal_holds, HasItsSymbols, jobs, job_reads, premise_holds, parts_say}

-- the symbol of a cell: the index of its first true input, or m if none is true
abbrev pub read_symbol : (ℕ → Bool) → ℕ → ℕ → ℕ
read_symbol set m k = position_or_len set (inputs_of m k)

abbrev pub read_symbols : (ℕ → Bool) → ℕ → ℕ → List ℕ
read_symbols set m n = map (read_symbol set m) (range_with_len 0 n)

-- an assignment that satisfies the clauses of all cells satisfies those of each cell
cell_at : (set : ℕ → Bool) (x : LocalRule) (cells : List Cell) (a k : ℕ) (d : Cell) → is_satisfied set (clauses_from x a cells) ≡ true → slice_get cells k ≡ Some d →
    is_satisfied set (symbol_clauses x (a + k) d.node) ≡ true
cell_at set x [] a k d ok is = absurd (cc)
cell_at set x (c ∷ cells) a zero d ok is =
    let first = symbol_clauses x a c.node in
    let rest = clauses_from x (a + 1) cells in
    let both = and_parts (is_satisfied set first) (is_satisfied set rest) (sym (list_all-append (is_clause_true set) first rest) ∙ ok) in
    let here : a ≡ a + 0 = omega arith in
    subst (λ j. is_satisfied set (symbol_clauses x j d.node) ≡ true) here (ap (λ (b : Cell). is_satisfied set (symbol_clauses x a b.node)) (sym (some_same c d is)) ∙ both.0)
cell_at set x (c ∷ cells) a (suc k) d ok is =
    let first = symbol_clauses x a c.node in
    let rest = clauses_from x (a + 1) cells in
    let both = and_parts (is_satisfied set first) (is_satisfied set rest) (sym (list_all-append (is_clause_true set) first rest) ∙ ok) in
    let later : a + 1 + k ≡ a + suc k = omega arith in
    subst (λ j. is_satisfied set (symbol_clauses x j d.node) ≡ true) later (cell_at set x cells (a + 1) k d both.1 is)

-- the two kinds of clauses of one cell: that it has one symbol, and that it has none that its node doesn't allow
module _ (set : ℕ → Bool) (x : LocalRule) (cells : List Cell) (ok : is_satisfied set (cell_clauses x cells) ≡ true) (k : ℕ) (d : Cell) (is : slice_get cells k ≡ Some d) where
  abbrev hot : List (List Literal)
  hot = one_hot (inputs_of x.symbols k)

  abbrev none : List (List Literal)
  none = none_of x.symbols k (disallowed x d.node)

  parts : (is_satisfied set hot ≡ true) × (is_satisfied set none ≡ true)
  parts =
      let e : 0 + k ≡ k = omega arith in
      let here = ap (λ j. is_satisfied set (symbol_clauses x j d.node)) (sym e) ∙ cell_at set x cells 0 k d ok is in
      and_parts (is_satisfied set hot) (is_satisfied set none) (sym (list_all-append (is_clause_true set) hot none) ∙ here)

cell_there : (cells : List Cell) (k : ℕ) → k < length cells → (d : Cell) × (slice_get cells k ≡ Some d)
cell_there [] k h = absurd (omega arith)
cell_there (c ∷ cells) zero h = (c, refl)
cell_there (c ∷ cells) (suc k) h = cell_there cells k (omega arith)

-- an input of a cell is true exactly when it is that of the cell's symbol
hot_input : (set : ℕ → Bool) (m k s : ℕ) → is_satisfied set (one_hot (inputs_of m k)) ≡ true → s < m → set (input m k s) ≡ (read_symbol set m k == s)
hot_input set m k s hot below =
    let vs = inputs_of m k in
    let both = and_parts (list_any set vs) (at_most_one set vs) (sym (one_hot_law set vs) ∙ hot) in
    let full = length-map-range_with_len (input m k) 0 m in
    let at : get_or vs s 0 ≡ input m k s = get_or-map-range_with_len (input m k) 0 m s s 0 below (omega arith) in
    ap set (sym at) ∙ hot_at set vs s 0 both.0 both.1 (omega (arith, full))

hot_symbol : (set : ℕ → Bool) (m k : ℕ) → is_satisfied set (one_hot (inputs_of m k)) ≡ true → read_symbol set m k < m
hot_symbol set m k hot =
    let vs = inputs_of m k in
    let both = and_parts (list_any set vs) (at_most_one set vs) (sym (one_hot_law set vs) ∙ hot) in
    omega (arith, length-map-range_with_len (input m k) 0 m, hot_below set vs both.0)

-- the symbol of a cell is one that its node allows
allowed_symbol : (set : ℕ → Bool) (x : LocalRule) (k node : ℕ) → is_satisfied set (one_hot (inputs_of x.symbols k)) ≡ true → is_satisfied set (none_of x.symbols k (disallowed x node)) ≡ true →
    (b : Bool) → rule_allows x node (read_symbol set x.symbols k) ≡ b → b ≡ true
allowed_symbol set x k node hot none true is = refl
allowed_symbol set x k node hot none false is =
    let s = read_symbol set x.symbols k in
    let below = hot_symbol set x.symbols k hot in
    let set_there : set (input x.symbols k s) ≡ true = hot_input set x.symbols k s hot below ∙ eq-eqb s s refl in
    let not_there : set (input x.symbols k s) ≡ false = none_at set (input x.symbols k) (λ t. not (rule_allows x node t)) x.symbols none s below (ap not is) in
    absurd (cc)

pub symbols_read : (set : ℕ → Bool) (x : LocalRule) (cells : List Cell) → is_satisfied set (cell_clauses x cells) ≡ true → AreSymbols x cells (read_symbols set x.symbols (length cells))
symbols_read set x cells ok =
    let m = x.symbols in
    let n = length cells in
    record {
      as_many = length-map-range_with_len (read_symbol set m) 0 n;
      below = λ k d h.
          (let below : k < n = omega (arith, length-map-range_with_len (read_symbol set m) 0 n) in
          let there = cell_there cells k below in
          rw (get_or-map-range_with_len (read_symbol set m) 0 n k k d below (omega arith)) (hot_symbol set m k (parts set x cells ok k there.0 there.1).0));
      allowed = λ k d is.
          (let within = slice_get_within cells k d is in
          let both = parts set x cells ok k d is in
          rw (get_or-map-range_with_len (read_symbol set m) 0 n k k 0 within (omega arith)) (allowed_symbol set x k d.node both.0 both.1 _ refl));
    }

pub inputs_read : (set : ℕ → Bool) (x : LocalRule) (cells : List Cell) → is_satisfied set (cell_clauses x cells) ≡ true → AreRead set x.symbols (read_symbols set x.symbols (length cells))
inputs_read set x cells ok k s h below =
    let m = x.symbols in
    let n = length cells in
    let within : k < n = omega (arith, length-map-range_with_len (read_symbol set m) 0 n) in
    let there = cell_there cells k within in
    hot_input set m k s (parts set x cells ok k there.0 there.1).0 below ∙ ap (is_symbol s) (sym (slice_of_range (read_symbol set m) n k within))

-- at the number of each cell of the layout, `places` has a cell with the same node
pub record IsLayout (l : Layout) : Type 0 where
  pub within : (c : Cell) → l.has c ≡ true → l.index c < length l.places
  pub node : (c : Cell) → l.has c ≡ true → (d : Cell) × (slice_get l.places (l.index c) ≡ Some d) × (d.node ≡ c.node)

pub told_by_inputs : (set : ℕ → Bool) (l : Layout) (m : ℕ) (symbols : List ℕ) → IsLayout l → length symbols ≡ length l.places → AreRead set m symbols →
    InputsTell set l m (layout_look l symbols)
told_by_inputs set l m symbols ok full read c s there below =
    rw there (read (l.index c) s (let h = ok.within c there in omega arith) below)

symbol_below : (n : ℕ) (symbols : List ℕ) (i : ℕ) (o : Option ℕ) → All (λ s. s < n) symbols → slice_get symbols i ≡ o → IfSome o (λ s. s < n)
symbol_below n symbols i None all is = tt
symbol_below n symbols i (Some s) all is =
    let at = get_or_from_slice_get symbols i s s is in
    rw at at (all i s (slice_get_within symbols i s is))

cond_below : (b : Bool) (o : Option ℕ) (n : ℕ) → IfSome o (λ s. s < n) → IfSome (cond b o None) (λ s. s < n)
cond_below true o n h = h
cond_below false o n h = tt

pub look_below : (l : Layout) (m : ℕ) (symbols : List ℕ) → All (λ s. s < m) symbols → HasSymbolsBelow m (layout_look l symbols)
look_below l m symbols all c = cond_below (l.has c) (slice_get symbols (l.index c)) m (symbol_below m symbols (l.index c) _ all refl)

pub slice_of_read : (symbols : List ℕ) (k s : ℕ) → slice_get symbols k ≡ Some s → get_or symbols k 0 ≡ s
slice_of_read symbols k s is = get_or_from_slice_get symbols k s 0 is

allowed_at : (l : Layout) (x : LocalRule) (symbols : List ℕ) → IsLayout l → AreSymbols x l.places symbols → (c : Cell) → (b : Bool) → l.has c ≡ b → (o : Option ℕ) → slice_get symbols (l.index c) ≡ o →
    IfSome (cond b o None) (λ s. rule_allows x c.node s ≡ true)
allowed_at l x symbols ok are c false has o is = tt
allowed_at l x symbols ok are c true has None is = tt
allowed_at l x symbols ok are c true has (Some s) is =
    let there = ok.node c has in
    ap (rule_allows x c.node) (sym (slice_of_read symbols (l.index c) s is))
    ∙ (ap (λ a. rule_allows x a (get_or symbols (l.index c) 0)) (sym there.2) ∙ are.allowed (l.index c) there.0 there.1)

-- if the symbols in the list are allowed, so are those of the layout's look-up
pub look_allowed : (l : Layout) (x : LocalRule) (symbols : List ℕ) → IsLayout l → AreSymbols x l.places symbols → AreAllowed x (layout_look l symbols)
look_allowed l x symbols ok are c = allowed_at l x symbols ok are c (l.has c) refl (slice_get symbols (l.index c)) refl

-- the symbols for which a satisfying assignment stands: they are allowed, the premise is true at each place where it fits, and the goal holds at the
-- origin
pub record Stands (l : Layout) (x : LocalRule) (g : GoalOf) (symbols : List ℕ) : Type 0 where
  pub symbols_fit : AreSymbols x l.places symbols
  pub premise : premise_holds l x (layout_look l symbols) ≡ true
  pub goal : goal_holds g (layout_look l symbols) ≡ true

-- The layout is well formed (`IsLayout`). Where the premise fits, each leaf of the premise has its input. If the goal has a rule, each leaf of this
-- rule at the origin has its input. If the goal has automata, they are well formed, each cell that they read at the origin has inputs, and the gates
-- of their values say the values. A look-up that gives only symbols of the premise's alphabet gives only symbols of the goal's alphabet.
pub record IsWired (l : Layout) (x : LocalRule) (g : GoalOf) : Type 0 where
  pub layout : IsLayout l
  pub reads : list_all (job_reads l x g) (jobs l x) ≡ true
  pub values : GoalWired l x.symbols g
  pub alphabet : (look : Look) → HasSymbolsBelow x.symbols look → HasItsSymbols g look

pub problem_read : (set : ℕ → Bool) (l : Layout) (x : LocalRule) (g : GoalOf) → IsWired l x g → is_satisfied set (problem_clauses l x g) ≡ true →
    Stands l x g (read_symbols set x.symbols (length l.places)) × AreRead set x.symbols (read_symbols set x.symbols (length l.places))
problem_read set l x g wired ok =
    let m = x.symbols in
    let n = input_count l x in
    let ps = problem_parts l x g in
    let ss = read_symbols set m (length l.places) in
    let look = layout_look l ss in
    let inputs = cell_clauses x l.places in
    let both = and_parts (is_satisfied set inputs) (is_satisfied set (part_clauses n ps)) (sym (list_all-append (is_clause_true set) inputs (part_clauses n ps)) ∙ ok) in
    let symbols = symbols_read set x l.places both.0 in
    let read = inputs_read set x l.places both.0 in
    let below = look_below l m ss symbols.below in
    let tell = told_by_inputs set l m ss wired.layout symbols.as_many read in
    let parts = and_parts (agrees set n (part_gates n ps)) (tests set n ps) (sym (parts_law set n ps) ∙ both.1) in
    let holds = and_parts (premise_holds l x look) (goal_holds g look)
    (sym (parts_say set l x g look below wired.layout.within wired.values (wired.alphabet look below) tell wired.reads parts.0) ∙ parts.1) in
    (record { symbols_fit = symbols; premise = holds.0; goal = holds.1 }, read)
