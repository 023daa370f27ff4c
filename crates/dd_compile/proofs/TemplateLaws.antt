-- The gates of a rule at a cell are those of its template, placed.
use Rattle.std.proofs.Common.{◌≡◌, ◌<◌, ◌≤◌, ℕ, zero, suc, ◌+◌, ◌-◌, ◌*◌, Bool, true, List, [], ◌∷◌, ◌++◌, Option, Some, None, length, get_or, slice_get, refl, ap, sym, ◌∙◌, arith}
use Rattle.std.proofs.lemmas.{Int.ints, Bool.and_parts, Bool.and_from, Bool.eqb-true, Bool.ltb-true}
use Rattle.std.proofs.lemmas.{Nat.mul-le, Option.slice_get-get_or}
use Rattle.std.specs.{Prelude.◌==◌, Prelude.◌&&◌, Prelude.◌^◌, Prelude.nat_lt, List.Contains, List.list_all}
use Rattle.dd_lattice.specs.{Place.Place, Cells.cell, Cells.shifted, declared.position.Cell.Cell}
use Rattle.dd_topology.specs.{Topology.extent, lemmas.OrderLaws.sorted-in_order}
use Rattle.dd_expansion.specs.{Leaves.LeafTest, Leaves.leaves_pass, lemmas.LeafLaws.leaves_both}
use Rattle.dd_formula.specs.LocalRule.{LocalRule, IsRule, is_near, reads_at, cells_at, expansion_at}
use Rattle.dd_formula.specs.lemmas.RuleLaws.{leaves_pass_reads, cells_pass_reads}
use Rattle.dd_formula.specs.lemmas.ValueLaws.{moved_by_none, shifted_by_none}
use Rattle.dd_circuit.specs.{declared.gates.Signal.Signal, Circuits.Network, Circuits.signal_of, Circuits.size}
use Rattle.dd_compile.specs.Wiring.{Wiring, IsWiring, signal_for, signals_of, wire_of}
use Rattle.dd_compile.specs.Compiling.{wire_or_zero, certain, wires_near, compiled, gate_count}
use Rattle.dd_compile.specs.RuleSignals.{is_signal, are_signals, are_reads_wired}
use Rattle.dd_compile.specs.placing.Own.{origin, signals_in_turn, own_wiring, own_inputs, own_count, own_made, IsTemplate}
use Rattle.dd_compile.specs.placing.Placed.{all_of, signals_there, placed, placed_by}
use Rattle.dd_compile.specs.lemmas.{WiringLaws.signals_at_place, RuleWiring.near_in_range, FewGates.few_gates}
use Rattle.dd_compile.proofs.{RuleSays.is_among, RuleSays.among, RuleSays.all_among, FewReads.few_reads}
use Rattle.dd_compile.proofs.OwnInputs.{in_turn_length, in_turn_full, own_read, row_count}
use Rattle.dd_compile.proofs.MadePlaced.{IsPlaced, made_placed}
use Rattle.dd_values.specs.lemmas.Lists.{members_pass}

pub origin_near : extent origin ≤ 1048560
origin_near = omega (arith, ints)

pub test_at : (test : Cell → Bool) (cs : List Cell) (i : ℕ) (d : Cell) → i < length cs → list_all test cs ≡ true → test (get_or cs i d) ≡ true
test_at test [] i d h all = absurd (omega arith)
test_at test (c ∷ cs) zero d h all = (and_parts (test c) (list_all test cs) all).0
test_at test (c ∷ cs) (suc i) d h all = test_at test cs i d (omega arith) (and_parts (test c) (list_all test cs) all).1

signals_wide : (n k : ℕ) (o : Option (List Signal)) → are_signals n k o ≡ true → length (all_of o) ≡ k
signals_wide n k None h = absurd (cc)
signals_wide n k (Some ss) h = eqb-true (length ss) k (and_parts (length ss == k) (list_all (is_signal n) ss) h).0

signal_among : (o : Option (List Signal)) (s : ℕ) → signal_for o s ≡ slice_get (all_of o) s
signal_among None s = refl
signal_among (Some ss) s = refl

module _ (r : LocalRule) (rule : IsRule r) (a : ℕ) (exists : a < r.nodes) where
  abbrev pub cells : List Cell
  cells = cells_at r a

  own_is_wiring : IsWiring (own_inputs r a)
  own_is_wiring = record { ascending = sorted-in_order (reads_at r a); as_many = in_turn_length r.symbols 0 cells }

  pub all_near : list_all is_near cells ≡ true
  all_near = cells_pass_reads r a is_near ∙ rule.short a exists

  -- the signals of the cell with the number k
  own_at : (k : ℕ) (d : Cell) → k < length cells → get_or cells k d ≡ d → signals_of (own_inputs r a) (shifted origin d) ≡ slice_get (signals_in_turn r.symbols 0 cells) k
  own_at k d h is =
      ap (signals_of (own_inputs r a)) (shifted_by_none d ∙ sym is) ∙ signals_at_place (own_inputs r a) own_is_wiring k d h

  pub own_wired : are_reads_wired (own_count r a) (own_inputs r a) r (cell origin a) ≡ true
  own_wired =
      let test : Cell → Bool = λ d. are_signals (own_count r a) r.symbols (signals_of (own_inputs r a) (shifted origin d)) in
      sym (cells_pass_reads r a test)
      ∙ members_pass test cells (λ d there.
      ap (are_signals (own_count r a) r.symbols) (own_at there.0 d there.1 there.2) ∙ in_turn_full r.symbols 0 (own_count r a) cells (omega arith) there.0 there.1)

  module _ (n : ℕ) (w : Wiring) (v : Place) (inner : extent v ≤ 1048560) (wired : are_reads_wired n w r (cell v a) ≡ true) where
    abbrev row : Cell → List Signal
    row d = all_of (signals_of w (shifted v d))

    row_wide : (i : ℕ) (d : Cell) → i < length cells → length (row (get_or cells i d)) ≡ r.symbols
    row_wide i d h =
        let test : Cell → Bool = λ c. are_signals n r.symbols (signals_of w (shifted v c)) in
        signals_wide n r.symbols (signals_of w (shifted v (get_or cells i d))) (test_at test cells i d h (cells_pass_reads r a test ∙ wired))

    pub table_count : length (signals_there w v cells) ≡ own_count r a
    table_count = row_count r.symbols cells row row_wide

    own_leaf : (d : Cell) (s : ℕ) → Contains cells d → s < r.symbols →
        placed (signals_there w v cells) n (certain (wires_near (own_inputs r a) origin) d s) ≡ certain (wires_near w v) d s
    own_leaf d s there below =
        let k = there.0 in
        let table = signals_there w v cells in
        let read = own_read r.symbols 0 cells row [] refl row_wide k s d there.1 below in
        let near : is_near d ≡ true = ap is_near (sym there.2) ∙ test_at is_near cells k d there.1 all_near in
        let j = read.0 in
        let wire : wire_of (own_inputs r a) (shifted origin d) s ≡ Some (signal_of (suc j)) = ap (λ o. signal_for o s) (own_at k d there.1 there.2) ∙ read.1 in
        let one : certain (wires_near (own_inputs r a) origin) d s ≡ signal_of (suc j) = rw (near_in_range origin d origin_near near) (ap wire_or_zero wire) in
        let wide : length (row d) ≡ r.symbols = ap (λ c. length (row c)) (sym there.2) ∙ row_wide k d there.1 in
        let y = get_or (row d) s (signal_of 0) in
        let has : slice_get (row d) s ≡ Some y = slice_get-get_or (row d) s (signal_of 0) (omega (arith, wide, below)) in
        let e : suc j - 1 ≡ j = omega arith in
        let found : slice_get table (suc j - 1) ≡ Some y = ap (slice_get table) e ∙ (read.2 ∙ (ap (λ c. slice_get (row c) s) there.2 ∙ has)) in
        let other : certain (wires_near w v) d s ≡ y = rw (near_in_range v d inner near) (ap wire_or_zero (signal_among (signals_of w (shifted v d)) s ∙ has)) in
        ap (placed table n) one ∙ (ap (λ o. placed_by o (n + (suc j - length table)) true) found ∙ sym other)

    pub template_placed : IsPlaced (signals_there w v cells) n (own_made r a) (compiled w v (expansion_at r a) n)
    template_placed =
        let e = expansion_at r a in
        let table = signals_there w v cells in
        let read : LeafTest = λ d s. is_among (cells_at r a) d in
        let known : LeafTest = λ d s. nat_lt s r.symbols in
        let read_all : leaves_pass read e ≡ true =
        leaves_pass_reads r rule.symbols.0 a (is_among (cells_at r a)) ∙ (sym (cells_pass_reads r a (is_among (cells_at r a))) ∙ all_among cells) in
        let passes : leaves_pass (λ d s. read d s && known d s) e ≡ true = leaves_both e read known ∙ and_from _ _ read_all (rule.known a exists) in
        made_placed table n e (certain (wires_near (own_inputs r a) origin)) (certain (wires_near w v)) (λ d s. read d s && known d s)
        (λ d s h.
        let both = and_parts (is_among (cells_at r a) d) (nat_lt s r.symbols) h in
        own_leaf d s (among cells d both.0) (ltb-true s r.symbols both.1))
        passes (own_count r a) n 0 (omega (arith, table_count)) (omega arith)

-- A template has at most 320,000 inputs. Together with its gates they fit into a circuit, and this circuit is as `IsTemplate` says.
module _ (r : LocalRule) (rule : IsRule r) (a : ℕ) (exists : a < r.nodes) (cs : List Cell) (m : ℕ) (read : cs ≡ cells_at r a) (all : m ≡ r.symbols) where
  pub few_cells : length cs ≤ 20000
  few_cells = omega (arith, ap length read, few_reads r rule.symbols.0 a, rule.small a exists)

  pub few_own : length cs * m ≤ 320000
  few_own = mul-le (length cs) m 20000 16 few_cells (omega (arith, all, rule.symbols.1))

  module _ (inputs : Wiring) (are : inputs ≡ own_wiring m cs) (old : Network) (count : old.inputs ≡ length cs * m) (none : old.gates ≡ []) where
    own_is : inputs ≡ own_inputs r a
    own_is = are ∙ (ap (λ k. own_wiring k cs) all ∙ ap (own_wiring r.symbols) read)

    counted : size old ≡ own_count r a
    counted =
        let few : old.inputs ≡ own_count r a = count ∙ (ap (λ k. length cs * k) all ∙ ap (λ ds. length ds * r.symbols) read) in
        let l : length old.gates ≡ 0 = ap length none in
        omega (arith, few, l)

    pub own_ready : are_reads_wired (size old) inputs r (cell origin a) ≡ true
    own_ready = rw (counted, own_is) (own_wired r rule a exists)

    pub few_made : size old + gate_count (expansion_at r a) ≤ 2 ^ 24
    few_made =
        let l : length old.gates ≡ 0 = ap length none in
        omega (arith, count, l, few_own, few_gates (expansion_at r a), rule.small a exists)

    pub own_template : (new : Network) (s : Signal) → new.inputs ≡ old.inputs → new.gates ≡ old.gates ++ (compiled inputs origin (expansion_at r a) (size old)).gates →
        s ≡ (compiled inputs origin (expansion_at r a) (size old)).signal → IsTemplate r a new s
    own_template new s same added signal =
        let made : compiled inputs origin (expansion_at r a) (size old) ≡ own_made r a =
        ap (λ u. compiled u origin (expansion_at r a) (size old)) own_is ∙ ap (compiled (own_inputs r a) origin (expansion_at r a)) counted in
        record {
          exists = exists;
          kept = rule;
          inputs = same ∙ (count ∙ (ap (λ k. length cs * k) all ∙ ap (λ ds. length ds * r.symbols) read));
          gates = added ∙ (ap (λ gs. gs ++ (compiled inputs origin (expansion_at r a) (size old)).gates) none ∙ ap (λ x. x.gates) made);
          signal = signal ∙ ap (λ x. x.signal) made;
        }
