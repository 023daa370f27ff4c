-- If the layout has inputs for what automata read at the origin, the gates of their values are well formed and say the values.
use Rattle.std.proofs.Common.{◌≡◌, ℕ, ◌+◌, ◌*◌, ◌<◌, ◌≤◌, Bool, true, List, [], ◌∷◌, length, ap, sym, subst, ◌∙◌, arith, inl, inr, Some, eq-eqb}
use Rattle.std.proofs.lemmas.{Int.ints, Bool.and_parts, Bool.and_from, Bool.le-leb, Option.slice_get_within}
use Rattle.std.proofs.lemmas.List.{Folds.list_all-map, FromFn.length-map-range_with_len}
use Rattle.std.specs.{Prelude.◌==◌, Prelude.not, Prelude.nat_le, Prelude.slice_get, List.Contains, List.list_all, List.range_with_len}
use Rattle.dd_lattice.specs.{Cells.cell, Cells.shifted, declared.position.Cell.Cell}
use Rattle.dd_values.specs.lemmas.{Members.Contains-nil, Members.Contains-cons_cases, Lists.members_pass}
use Rattle.dd_pattern.specs.Reading.{Look, HasSymbolsBelow}
use Rattle.dd_expansion.specs.Truth.{is_symbol}
use Rattle.dd_formula.specs.Automata.{CommonNumbers, IsAutomaton, counted, value}
use Rattle.dd_formula.specs.{declared.automaton.Automaton.Automaton, lemmas.ValueLaws.value_below, lemmas.ReachLaws.all_numbers}
use Rattle.dd_circuit.specs.{declared.gates.Signal.Signal, Circuits.AreGates, Circuits.signal_of, Circuits.signal_value, Circuits.agrees}
use Rattle.dd_compile.specs.{Wiring.signals_of, Wiring.signal_for, RuleSignals.is_signal, RuleSignals.are_signals, ValueGates.value_made}
use Rattle.dd_compile.specs.{ValueSignals.TellsCells, ValueSignals.are_wired_there, Valued.IsMadeValue, Valued.SaysItsValue}
use Rattle.dd_boxes.specs.{Goals.GoalOf, Goals.breaks, Goals.differ, Goals.always, Boxes.origin}
use Rattle.dd_problem.specs.{Layouts.Layout, Clauses.input, pushing.Numbered.symbol_signals, Differing.differ_made}
use Rattle.dd_problem.specs.lemmas.{Filtered.some_same, Filtered.slice_of_range, RangesLeft.row_within}
use Rattle.dd_problem.specs.lemmas.DifferLaws.{differ_says, differ_fits}

-- the layout has the cell, with the inputs of its number
abbrev pub HasInputs : Layout → ℕ → Cell → Type 0
HasInputs l m c = (l.has c ≡ true) × (signals_of l.inputs c ≡ Some (symbol_signals m (l.index c)))

-- The automaton is well formed. The gates of its value say the value. The layout has each cell that the automaton reads at the
-- origin, with the inputs of the cell's number.
pub record IsValueWired (l : Layout) (s : CommonNumbers) (f : Automaton) : Type 0 where
  pub formed : IsAutomaton s f
  pub says : SaysItsValue f
  pub inputs : (a : ℕ) → a < s.nodes → (d : Cell) → Contains ((counted f).reads a) d → HasInputs l s.symbols (shifted origin d)

pub record AreValuesWired (l : Layout) (m : ℕ) (s : CommonNumbers) (f g : Automaton) : Type 0 where
  pub symbols : s.symbols ≡ m
  pub left : IsValueWired l s f
  pub right : IsValueWired l s g

abbrev pub GoalWired : Layout → ℕ → GoalOf → Type 0
GoalWired l m (breaks y) = Unit {0}
GoalWired l m (differ s f g) = AreValuesWired l m s f g
GoalWired l m always = Unit {0}

pub passes_member : (test : Cell → Bool) (ds : List Cell) (d : Cell) → list_all test ds ≡ true → Contains ds d → test d ≡ true
passes_member test [] d h there = absurd (Contains-nil d there)
passes_member test (e ∷ ds) d h there =
    let both = and_parts (test e) (list_all test ds) h in
    elim (Contains-cons_cases e ds d there) [ inl same ↦ ap test (sym same) ∙ both.0 | inr later ↦ passes_member test ds d both.1 later ]

all_inputs : (p : Signal → Bool) (m k : ℕ) (n j : ℕ) → ((s : ℕ) → s < j + n → p (signal_of (input m k s)) ≡ true) → list_all (λ s. p (signal_of (input m k s))) (range_with_len j n) ≡ true
all_inputs p m k n j h = all_numbers (λ s. p (signal_of (input m k s))) j n h

-- the inputs of a cell's number are among the first n variables
inputs_are_signals : (m k count n : ℕ) → k < count → count * m ≤ n → are_signals n m (Some (symbol_signals m k)) ≡ true
inputs_are_signals m k count n h le =
    and_from (length (symbol_signals m k) == m) (list_all (is_signal n) (symbol_signals m k))
    (eq-eqb (length (symbol_signals m k)) m (length-map-range_with_len (λ s. signal_of (input m k s)) 0 m))
    (list_all-map (is_signal n) (λ s. signal_of (input m k s)) (range_with_len 0 m)
    ∙ all_inputs (is_signal n) m k m 0 (λ s below.
    let row = row_within m k count h in
    and_from (nat_le 1 (input m k s)) (nat_le (input m k s) n) (le-leb 1 (input m k s) (omega arith)) (le-leb (input m k s) n (omega (arith, row, le, below)))))

module _ (l : Layout) (within : (c : Cell) → l.has c ≡ true → l.index c < length l.places) (s : CommonNumbers) (f : Automaton) (wired : IsValueWired l s f) (a : ℕ) (node : a < s.nodes) where
  pub value_is_wired : (n : ℕ) → length l.places * s.symbols ≤ n → are_wired_there n s.symbols l.inputs ((counted f).reads a) (cell origin a) ≡ true
  value_is_wired n le =
      members_pass (λ d. are_signals n s.symbols (signals_of l.inputs (shifted origin d))) ((counted f).reads a) (λ d there.
      let here = wired.inputs a node d there in
      ap (are_signals n s.symbols) here.1
      ∙ inputs_are_signals s.symbols (l.index (shifted origin d)) (length l.places) n (within (shifted origin d) here.0) le)

  pub value_is_made : (n : ℕ) → length l.places * s.symbols ≤ n → IsMadeValue n s.symbols f l.inputs (cell origin a) (value_made s.symbols f l.inputs (cell origin a) n)
  value_is_made n le = wired.says s wired.formed l.inputs (cell origin a) n node (omega (arith, ints)) (value_is_wired n le)

  pub value_is_told : (set : ℕ → Bool) (look : Look) → ((c : Cell) (t : ℕ) → l.has c ≡ true → t < s.symbols → set (input s.symbols (l.index c) t) ≡ is_symbol t (look c)) →
      TellsCells set l.inputs ((counted f).reads a) (cell origin a) look
  value_is_told set look tell d t x there wire =
      let c = shifted origin d in
      let here = wired.inputs a node d there in
      let k = l.index c in
      let at : slice_get (symbol_signals s.symbols k) t ≡ Some x = sym (ap (λ o. signal_for o t) here.1) ∙ wire in
      let low = slice_get_within (symbol_signals s.symbols k) t x at in
      let inside : t < s.symbols = omega (arith, low, length-map-range_with_len (λ u. signal_of (input s.symbols k u)) 0 s.symbols) in
      let same : signal_of (input s.symbols k t) ≡ x = some_same (signal_of (input s.symbols k t)) x (sym (slice_of_range (λ u. signal_of (input s.symbols k u)) s.symbols t inside) ∙ at) in
      ap (signal_value set) (sym same) ∙ tell c t here.0 inside

-- the gates that tell the two values apart
module _ (l : Layout) (within : (c : Cell) → l.has c ≡ true → l.index c < length l.places) (m : ℕ) (s : CommonNumbers) (f g : Automaton) (wired : AreValuesWired l m s f g) (a : ℕ) (node : a < s.nodes)
    (n : ℕ) (le : length l.places * m ≤ n) where
  room : (k : ℕ) → n ≤ k → length l.places * s.symbols ≤ k
  room k more = let same = ap (λ j. length l.places * j) wired.symbols in omega (arith, same, le, more)

  first : IsMadeValue n s.symbols f l.inputs (cell origin a) (value_made s.symbols f l.inputs (cell origin a) n)
  first = value_is_made l within s f wired.left a node n (room n (omega arith))

  abbrev second : ℕ
  second = n + length (value_made s.symbols f l.inputs (cell origin a) n).gates

  next : IsMadeValue second s.symbols g l.inputs (cell origin a) (value_made s.symbols g l.inputs (cell origin a) second)
  next = value_is_made l within s g wired.right a node second (room second (omega arith))

  pub differ_gates_fit : AreGates n (differ_made s.symbols f g l.inputs (cell origin a) n).gates
  differ_gates_fit = differ_fits s.symbols f g l.inputs (cell origin a) n first next

  pub differ_gates_say : (set : ℕ → Bool) (look : Look) → HasSymbolsBelow s.symbols look →
      ((c : Cell) (t : ℕ) → l.has c ≡ true → t < m → set (input m (l.index c) t) ≡ is_symbol t (look c)) →
      agrees set n (differ_made s.symbols f g l.inputs (cell origin a) n).gates ≡ true →
      signal_value set (differ_made s.symbols f g l.inputs (cell origin a) n).signal ≡ not (value f look (cell origin a) == value g look (cell origin a))
  differ_gates_say set look below tell ok =
      let told = subst (λ k. (c : Cell) (t : ℕ) → l.has c ≡ true → t < k → set (input k (l.index c) t) ≡ is_symbol t (look c)) (sym wired.symbols) tell in
      differ_says s.symbols f g l.inputs (cell origin a) n first next set look below
      (value_is_told l within s f wired.left a node set look told)
      (value_is_told l within s g wired.right a node set look told)
      (value_below s f wired.left.formed.fits look (cell origin a)) ok
