-- The gates of a composition say what its value is, wherever they stand in a circuit.
use Rattle.std.proofs.Common.{◌≡◌, ◌<◌, ◌≤◌, ℕ, zero, suc, ◌+◌, ◌*◌, true, List, [], ◌++◌, length, get_or, refl, sym, ◌∙◌, subst, arith, length-append}
use Rattle.std.proofs.lemmas.List.{get_or_default, Elements.All-weaker}
use Rattle.std.specs.List.{list_all, All}
use Rattle.dd_lattice.specs.{Cells.shifted, declared.position.Cell.Cell, lemmas.InOrderLaws.list_all-in_order}
use Rattle.dd_topology.specs.Topology.{extent}
use Rattle.dd_expansion.specs.Terms.{origin_at}
use Rattle.dd_formula.specs.LocalRule.{is_near}
use Rattle.dd_formula.specs.Automata.{CommonNumbers, IsAutomaton, counted, cells_of, is_cell_of}
use Rattle.dd_formula.specs.{Values.IsPlaced, declared.automaton.Automaton.Automaton}
use Rattle.dd_formula.specs.lemmas.AutomatonLaws.{outer_part, inner_part, depth_composed, near_cells, node_at, shallow}
use Rattle.dd_circuit.specs.{Circuits.Network, Circuits.IsSignal, Circuits.AreGates, Circuits.size, lemmas.GateLists.AreGates-append}
use Rattle.dd_compile.specs.{Wiring.Wiring, Wiring.unwired, Wiring.with_cell, Compiling.AllMade, ValueGates.value_made}
use Rattle.dd_compile.specs.{ValueSignals.SaysValue, ValueSignals.are_wired_there, composing.Parts.AreWired}
use Rattle.dd_compile.specs.{Valued.IsMadeValue, Valued.SaysNear, Valued.SaysItsValue, lemmas.CaseRules.agrees_added}
use Rattle.dd_compile.proofs.Composing.{Composing, composing_start, composing_step, composing_end, value_wired, value_inside}
use Rattle.dd_compile.proofs.Composed.{inner_wired, outer_wired, composed_says, composed_gates, composed_signals}
use Rattle.dd_compile.proofs.SaidRules.{of_network}
use Rattle.dd_formula.specs.declared.automaton.Automaton.TheVariants as v

-- the gates of a value at the end of a circuit say what the value is
said_after : (now : Network) (k : ℕ) (f : Automaton) (w : Wiring) (at : Cell) (m : AllMade) → IsMadeValue (size now) k f w at m →
    SaysValue (record { inputs = now.inputs; gates = now.gates ++ m.gates }) w k f at m.signals
said_after now k f w at m made = record {
  one_each = made.one_each;
  says = λ set look ok below tells.
      made.says set look (agrees_added now (record { inputs = now.inputs; gates = now.gates ++ m.gates }) set m.gates refl refl ok) below tells;
}

in_range_after : (now : Network) (m : AllMade) → All (IsSignal (size now + length m.gates)) m.signals → All (IsSignal (size (record { inputs = now.inputs; gates = now.gates ++ m.gates }))) m.signals
in_range_after now m ok =
    let l = length-append now.gates m.gates in
    All-weaker (IsSignal (size now + length m.gates)) (IsSignal (now.inputs + length (now.gates ++ m.gates))) (λ x h. (h.0, (let top = h.1 in omega (arith, top, l)))) m.signals ok

-- the inner values, one after the other
module _ (s : CommonNumbers) (g : Automaton) (formed : IsAutomaton s g) (says : SaysNear g) (w : Wiring) (at : Cell) (cs : List Cell) (placed : list_all (is_cell_of s) cs ≡ true) (near : list_all is_near cs ≡ true)
    (inside : extent at.position + 16 * (counted g).depth + 32 ≤ 1048576) (start : Network) (wired : AreWired (size start) s.symbols w g cs at) where
  run : (j i : ℕ) → i + j ≡ length cs → (now : Network) (values : Wiring) → Composing s.symbols g w cs at i start now values → AreGates now.inputs now.gates →
      (end : Network) × (all : Wiring) × Composing s.symbols g w cs at (length cs) start end all × AreGates end.inputs end.gates
  run zero i total now values p fit = let done : i ≡ length cs = omega (arith, total) in (now, values, subst (λ a. Composing s.symbols g w cs at a start now values) done p, fit)
  run (suc j) i total now values p fit =
      let c = get_or cs i (origin_at 0) in
      let below : i < length cs = omega (arith, total) in
      let is : c ≡ get_or cs i c = get_or_default cs i (origin_at 0) c below in
      let there = shifted at.position c in
      let m = value_made s.symbols g w there (size now) in
      let made = says s formed w there (size now) (node_at s cs i c placed below is)
      (value_inside s.symbols g w cs at i start now values c there p below is refl (counted g).depth near inside)
      (value_wired s.symbols g w cs at i start now values c there p below is refl wired) in
      let new : Network = record { inputs = now.inputs; gates = now.gates ++ m.gates } in
      let step = composing_step s.symbols g w cs at i start now values c there p below is refl new m.signals (with_cell values there m.signals)
      (record { inputs = refl; added = m.gates; gates = refl }) refl refl (in_range_after now m made.in_range) (said_after now s.symbols g w there m made) refl in
      run j (i + 1) (omega (arith, total)) new (with_cell values there m.signals) step (AreGates-append now.inputs now.gates m.gates fit made.gates)

pub composed_made_says : (f g : Automaton) → IsPlaced f → SaysNear f → SaysNear g → SaysNear (v.Composed f g)
composed_made_says f g placed first second s ok w at n node near wired =
    let k = s.symbols in
    let outer = outer_part s f g ok in
    let inner = inner_part s f g ok in
    let deep = depth_composed f g in
    let cs = cells_of f at.node in
    let start : Network = record { inputs = n; gates = [] } in
    let whole : n + 0 ≡ n = omega arith in
    let there : are_wired_there (size start) k w ((counted (v.Composed f g)).reads at.node) at ≡ true = subst (λ m. are_wired_there m k w ((counted (v.Composed f g)).reads at.node) at ≡ true) (sym whole) wired in
    let cells : list_all (is_cell_of s) cs ≡ true = list_all-in_order (is_cell_of s) ((counted f).reads at.node) ∙ placed s outer at.node node in
    let done = run s g inner second w at cs cells (near_cells s f outer at.node node) (omega (arith, near, deep)) start (inner_wired (size start) k w f g at cs refl there)
    (length cs) 0 (omega arith) start unwired (composing_start k g w cs at start unwired refl) tt in
    let one : Network = done.0 in
    let values : Wiring = done.1 in
    let made = composing_end k g w cs at (length cs) start one values done.2 (omega arith) in
    let mo = value_made k f values at (size one) in
    let out = first s outer values at (size one) node (omega (arith, near, deep)) (outer_wired k f g w at start one values cs refl made.values_are) in
    let new : Network = record { inputs = one.inputs; gates = one.gates ++ mo.gates } in
    let kept : one.inputs ≡ n = done.2.extends.inputs in
    let value = composed_says k f g w at start one values cs refl made.values_are s inner refl new mo.signals (record { inputs = refl; added = mo.gates; gates = refl }) (said_after one k f values at mo out) in
    let gates = composed_gates k f g w at start cs refl one values done.2.extends made.gates made.wiring new refl in
    let signals = composed_signals k f g w at start cs refl one values done.2.extends made.gates made.wiring mo.signals refl in
    let all_fit : AreGates one.inputs new.gates = AreGates-append one.inputs one.gates mo.gates done.3 out.gates in
    subst (λ j. IsMadeValue n k (v.Composed f g) w at (value_made k (v.Composed f g) w at j)) whole
    (of_network n k (v.Composed f g) w at new.gates mo.signals (value_made k (v.Composed f g) w at (size start)) (subst (λ i. AreGates i new.gates) kept all_fit)
    (subst (λ i. SaysValue (record { inputs = i; gates = new.gates }) w k (v.Composed f g) at mo.signals) kept value)
    (subst (λ i. All (IsSignal (i + length new.gates)) mo.signals) kept (in_range_after one mo out.in_range)) gates signals)

-- the law `SaysNear` gives the law for all cells at least 2048 from the border of the range, since automata are at most 64 deep
pub says_from_near : (f : Automaton) → SaysNear f → SaysItsValue f
says_from_near f says s ok w at n node near wired = let deep = shallow s f ok in says s ok w at n node (omega (arith, near, deep)) wired
