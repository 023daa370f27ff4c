-- The state while the gates of a template are placed, and what holds when all of them are there.
use Rattle.std.proofs.Common.{◌≡◌, ◌<◌, ◌≤◌, ℕ, ◌+◌, Bool, true, List, [], ◌∷◌, ◌++◌, map, length, take, get_or, refl, ap, sym, ◌∙◌, subst, arith, append_assoc, append-nil}
use Rattle.std.proofs.lemmas.Bool.{and_from}
use Rattle.std.proofs.lemmas.List.{map-append, length-map, length-take, take_all, get_or-map}
use Rattle.std.specs.{Prelude.◌^◌, Prelude.Option, Prelude.Some, Prelude.None, Prelude.is_some, List.list_all}
use Rattle.dd_lattice.specs.{Place.moved, Place.is_in_range, Cells.cell, Cells.shifted, declared.position.Cell.Cell}
use Rattle.dd_topology.specs.Topology.{extent}
use Rattle.dd_formula.specs.LocalRule.{LocalRule, IsRule, is_near, cells_at, expansion_at}
use Rattle.dd_formula.specs.lemmas.RuleLaws.{cells_pass_reads}
use Rattle.dd_circuit.specs.declared.gates.{Signal.Signal, Gate.Gate}
use Rattle.dd_circuit.specs.Circuits.{Network, IsSignal, IsGate, AreGates, size}
use Rattle.dd_circuit.specs.lemmas.GateLists.{gate_at, gate_within}
use Rattle.dd_compile.specs.Wiring.{Wiring, signals_of}
use Rattle.dd_compile.specs.Compiling.{Extends, certain, wires_near, compiled, gate_count}
use Rattle.dd_compile.specs.RuleSignals.{are_signals, are_reads_wired, SaysTruth}
use Rattle.dd_compile.specs.Templates.{RuleAt, rule_at}
use Rattle.dd_compile.specs.placing.Own.{origin, own_inputs, own_count, own_made, IsTemplate}
use Rattle.dd_compile.specs.placing.Placed.{is_there, signals_there, placed, placed_gate}
use Rattle.dd_compile.specs.lemmas.{Progress.size-append, Progress.Extends-trans, MadeCount.made_count}
use Rattle.dd_compile.specs.lemmas.{MadeFits.IsMade, FewGates.few_gates}
use Rattle.dd_compile.specs.lemmas.RuleWiring.{leaves_wired, near_in_range}
use Rattle.dd_compile.specs.lemmas.CaseGates.{itself, taken_is}
use Rattle.dd_compile.proofs.{CompiledLaws.compiled_fits, RuleSays.says_in, MadePlaced.IsPlaced}
use Rattle.dd_compile.proofs.TemplateLaws.{all_near, few_own, origin_near, own_wired, template_placed, test_at}
use Rattle.dd_values.specs.lemmas.Lists.{members_pass}

pub record Placing (inputs : List Signal) (n : ℕ) (gates : List Gate) (i : ℕ) (start now : Network) : Type 0 where
  pub extends : Extends start now
  pub added : now.gates ≡ start.gates ++ map (placed_gate inputs n) (take i gates)

pub placing_start : (inputs : List Signal) (n : ℕ) (gates : List Gate) (start : Network) → Placing inputs n gates 0 start start
placing_start inputs n gates start = record { extends = itself start; added = sym (append-nil start.gates) }

pub placing_step : (inputs : List Signal) (n : ℕ) (gates : List Gate) (i : ℕ) (start now new : Network) (g : Gate) → Placing inputs n gates i start now → i < length gates → g ≡ get_or gates i g →
    new.inputs ≡ now.inputs → new.gates ≡ now.gates ++ placed_gate inputs n g ∷ [] → Placing inputs n gates (i + 1) start new
placing_step inputs n gates i start now new g p below is same more =
    let one = placed_gate inputs n in record {
      extends = Extends-trans start now new p.extends (record { inputs = same; added = one g ∷ []; gates = more });
      added =
          more
          ∙ (ap (λ gs. gs ++ one g ∷ []) p.added
          ∙ (append_assoc start.gates (map one (take i gates)) (one g ∷ [])
          ∙ ap (λ gs. start.gates ++ gs) (sym (ap (map one) (taken_is gates i g below is) ∙ map-append one (take i gates) (g ∷ [])))));
    }

placing_size : (inputs : List Signal) (n : ℕ) (gates : List Gate) (i : ℕ) (start now : Network) → Placing inputs n gates i start now → i ≤ length gates → size now ≡ size start + i
placing_size inputs n gates i start now p within =
    let one = placed_gate inputs n in
    let l = size-append start now (map one (take i gates)) p.extends.inputs p.added in
    let m = length-map (take i gates) one in
    let k = length-take i gates in
    omega (arith, l, m, k, within)

-- if t consists of the rule r and the node a, a template of r at a is a template of t's rule at t's node
pub template_here : (t : RuleAt) (r : LocalRule) (a : ℕ) → rule_at r a ≡ t → (b : ℕ) → b ≡ t.node → (tc : Network) (ts : Signal) → IsTemplate r a tc ts → IsTemplate t.rule b tc ts
template_here t r a is b node tc ts h =
    let rule : r ≡ t.rule = ap (λ (x : RuleAt). x.rule) is in
    let at : a ≡ b = ap (λ (x : RuleAt). x.node) is ∙ sym node in
    subst (λ k. IsTemplate t.rule k tc ts) at (subst (λ x. IsTemplate x a tc ts) rule h)

pub reads_here : (t : RuleAt) (r : LocalRule) (a : ℕ) → rule_at r a ≡ t → (b : ℕ) → b ≡ t.node → (cs : List Cell) → cs ≡ cells_at r a → cs ≡ cells_at t.rule b
reads_here t r a is b node cs h =
    let rule : r ≡ t.rule = ap (λ (x : RuleAt). x.rule) is in
    let at : a ≡ b = ap (λ (x : RuleAt). x.node) is ∙ sym node in
    h ∙ (ap (λ x. cells_at x a) rule ∙ ap (cells_at t.rule) at)

some_signals : (n k : ℕ) (o : Option (List Signal)) → are_signals n k o ≡ true → is_some o ≡ true
some_signals n k None h = absurd (cc)
some_signals n k (Some ss) h = refl

-- each cell that a rule reads is in range and has signals
pub reads_there : (r : LocalRule) → IsRule r → (n : ℕ) (w : Wiring) (c : Cell) → c.node < r.nodes → extent c.position ≤ 1048560 → are_reads_wired n w r c ≡ true →
    (cs : List Cell) → cs ≡ cells_at r c.node → list_all (is_there w c.position) cs ≡ true
reads_there r rule n w c exists inner wired cs is =
    let a = c.node in
    let v = c.position in
    let test : Cell → Bool = λ d. are_signals n r.symbols (signals_of w (shifted v d)) in
    let all : list_all test (cells_at r a) ≡ true = cells_pass_reads r a test ∙ wired in
    let near = all_near r rule a exists in
    rw is (members_pass (is_there w v) (cells_at r a) (λ d there.
    let one : is_near d ≡ true = ap is_near (sym there.2) ∙ test_at is_near (cells_at r a) there.0 d there.1 near in
    let two : test d ≡ true = ap test (sym there.2) ∙ test_at test (cells_at r a) there.0 d there.1 all in
    and_from (is_in_range (moved d.position v)) (is_some (signals_of w (shifted v d))) (near_in_range v d inner one) (some_signals n r.symbols (signals_of w (shifted v d)) two)))

pub record GateAsks (inputs : List Signal) (n : ℕ) (now : Network) (g : Gate) : Type 0 where
  pub few : size now < 2 ^ 24
  pub before : n ≤ 2 ^ 24
  pub signals : IsGate (2 ^ 24) g
  pub in_range : IsGate (size now) (placed_gate inputs n g)

pub record IsDone (r : LocalRule) (w : Wiring) (c : Cell) (start now : Network) (s : Signal) : Type 0 where
  pub more : size now ≡ size start + gate_count (expansion_at r c.node)
  pub gates : now.gates ≡ start.gates ++ (compiled w c.position (expansion_at r c.node) (size start)).gates
  pub signal : s ≡ (compiled w c.position (expansion_at r c.node) (size start)).signal
  pub in_range : IsSignal (size now) s
  pub says : SaysTruth now w r c s

module _ (r : LocalRule) (c : Cell) (tc : Network) (ts : Signal) (template : IsTemplate r c.node tc ts) (start : Network) (w : Wiring) (inner : extent c.position ≤ 1048560)
    (wired : are_reads_wired (size start) w r c ≡ true) (few : size start + gate_count (expansion_at r c.node) ≤ 2 ^ 24)
    (inputs : List Signal) (cs : List Cell) (are : inputs ≡ signals_there w c.position cs) (read : cs ≡ cells_at r c.node) (n : ℕ) (before : n ≡ size start)
    (gates : List Gate) (given : gates ≡ tc.gates) where
  e_gates : gates ≡ (own_made r c.node).gates
  e_gates = given ∙ template.gates

  all_placed : IsPlaced inputs n (own_made r c.node) (compiled w c.position (expansion_at r c.node) (size start))
  all_placed =
      let first = template_placed r template.kept c.node template.exists (size start) w c.position inner wired in
      let table : inputs ≡ signals_there w c.position (cells_at r c.node) = are ∙ ap (signals_there w c.position) read in
      subst (λ k. IsPlaced inputs k (own_made r c.node) (compiled w c.position (expansion_at r c.node) (size start))) (sym before)
      (subst (λ xs. IsPlaced xs (size start) (own_made r c.node) (compiled w c.position (expansion_at r c.node) (size start))) (sym table) first)

  fits : IsMade (size start) (compiled w c.position (expansion_at r c.node) (size start))
  fits = compiled_fits (size start) (wires_near w c.position) (expansion_at r c.node) (leaves_wired (size start) w r template.kept c template.exists inner wired)

  own_fits : IsMade (own_count r c.node) (own_made r c.node)
  own_fits =
      compiled_fits (own_count r c.node) (wires_near (own_inputs r c.node) origin) (expansion_at r c.node)
      (leaves_wired (own_count r c.node) (own_inputs r c.node) r template.kept (cell origin c.node) template.exists origin_near (own_wired r template.kept c.node template.exists))

  gates_count : length gates ≡ gate_count (expansion_at r c.node)
  gates_count = ap length e_gates ∙ made_count (expansion_at r c.node) (certain (wires_near (own_inputs r c.node) origin)) (own_count r c.node)

  here_count : length (compiled w c.position (expansion_at r c.node) (size start)).gates ≡ gate_count (expansion_at r c.node)
  here_count = made_count (expansion_at r c.node) (certain (wires_near w c.position)) (size start)

  own_small : own_count r c.node + length gates ≤ 2 ^ 24
  own_small =
      let few_variables : own_count r c.node ≤ 320000 = few_own r template.kept c.node template.exists (cells_at r c.node) r.symbols refl refl in
      let small = template.kept.small c.node template.exists in
      omega (arith, few_variables, gates_count, few_gates (expansion_at r c.node), small)

  gates_placed : (compiled w c.position (expansion_at r c.node) (size start)).gates ≡ map (placed_gate inputs n) gates
  gates_placed = all_placed.gates ∙ ap (map (placed_gate inputs n)) (sym e_gates)

  pub gate_asks : (i : ℕ) (now : Network) (g : Gate) → Placing inputs n gates i start now → i < length gates → g ≡ get_or gates i g → GateAsks inputs n now g
  gate_asks i now g p below is =
      let made = compiled w c.position (expansion_at r c.node) (size start) in
      let l : size now ≡ size start + i = placing_size inputs n gates i start now p (omega (arith, below)) in
      let whole : length made.gates ≡ length gates = here_count ∙ sym gates_count in
      let at : get_or made.gates i (placed_gate inputs n g) ≡ placed_gate inputs n g =
      ap (λ gs. get_or gs i (placed_gate inputs n g)) gates_placed
      ∙ (get_or-map (placed_gate inputs n) gates i g (placed_gate inputs n g) below ∙ ap (placed_gate inputs n) (sym is)) in
      record {
        few = omega (arith, l, below, gates_count, few);
        before = omega (arith, before, few);
        signals = gate_within (own_count r c.node) (2 ^ 24) gates i g (subst (AreGates (own_count r c.node)) (sym e_gates) own_fits.0) below own_small is;
        in_range =
            subst (λ k. IsGate k (placed_gate inputs n g)) (sym l)
            (subst (IsGate (size start + i)) at (gate_at (size start) made.gates i (placed_gate inputs n g) fits.0 (omega (arith, whole, below))));
      }

  pub signal_small : IsSignal (2 ^ 24) ts
  signal_small =
      let s = own_fits.1 in
      let l : length gates ≡ length (own_made r c.node).gates = ap length e_gates in
      rw template.signal (s.0, omega (arith, s.1, l, own_small))

  pub placing_done : (i : ℕ) (now : Network) (s : Signal) → Placing inputs n gates i start now → length gates ≤ i → s ≡ placed inputs n ts → IsDone r w c start now s
  placing_done i now s p past is =
      let made = compiled w c.position (expansion_at r c.node) (size start) in
      let added : now.gates ≡ start.gates ++ made.gates =
      p.added ∙ ap (λ gs. start.gates ++ gs) (ap (map (placed_gate inputs n)) (take_all i gates past) ∙ sym gates_placed) in
      let signal : s ≡ made.signal = is ∙ (ap (placed inputs n) template.signal ∙ sym all_placed.signal) in
      let l : size now ≡ size start + length made.gates = size-append start now made.gates p.extends.inputs added in
      let inside : IsSignal (size now) made.signal = subst (λ k. IsSignal k made.signal) (sym l) fits.1 in
      record {
        more = omega (arith, l, here_count);
        gates = added;
        signal = signal;
        in_range = subst (IsSignal (size now)) (sym signal) inside;
        says =
            says_in start now w r template.kept.symbols.0 c (leaves_wired (size start) w r template.kept c template.exists inner wired) p.extends.inputs added s signal;
      }
