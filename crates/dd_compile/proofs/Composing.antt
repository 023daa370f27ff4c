-- The values of the inner automaton of a composition, one after the other.
use Rattle.std.proofs.Common.{◌≡◌, ◌<◌, ◌≤◌, ℕ, ◌+◌, ◌*◌, true, List, [], ◌∷◌, ◌++◌, map, length, take, drop, get_or, refl, ap, sym, ◌∙◌, subst, arith, length-append, append_assoc}
use Rattle.std.proofs.lemmas.{Bool.leb-true, List.map-append, List.take_all, List.drop_all}
use Rattle.std.proofs.lemmas.List.Elements.{All-weaker}
use Rattle.std.specs.List.{All, list_all}
use Rattle.dd_lattice.specs.{Place.moved, Cells.shifted, declared.position.Cell.Cell}
use Rattle.dd_topology.specs.{Topology.extent, lemmas.ExtentLaws.extent_moved}
use Rattle.dd_formula.specs.{LocalRule.is_near, Automata.counted, declared.automaton.Automaton.Automaton, lemmas.AutomatonLaws.passes_at}
use Rattle.dd_circuit.specs.{declared.gates.Signal.Signal, declared.gates.Gate.Gate, Circuits.Network, Circuits.IsSignal, Circuits.size}
use Rattle.dd_compile.specs.{Wiring.Wiring, Wiring.unwired, Wiring.with_cell, Compiling.Extends}
use Rattle.dd_compile.specs.ValueGates.{WiredMade, inner_made, value_made}
use Rattle.dd_compile.specs.ValueSignals.{SaysValue, are_wired_there}
use Rattle.dd_compile.specs.composing.Parts.{AreWired, AreValued, AreValues, IsValued}
use Rattle.dd_compile.specs.lemmas.Progress.{size-append, Extends-trans}
use Rattle.dd_compile.specs.lemmas.{CaseGates.itself, CaseGates.next_is, CaseGates.taken_is, CaseRules.agrees_before}
use Rattle.dd_compile.specs.lemmas.StillWired.{still_wired}

-- if signals say what a value is, they still say it after gates have been added
still_valued : (now new : Network) (w : Wiring) (k : ℕ) (f : Automaton) (c : Cell) (ss : List Signal) → Extends now new → IsValued now w k f c ss → IsValued new w k f c ss
still_valued now new w k f c ss more h =
    let n = size-append now new more.added more.inputs more.gates in
    record {
      says = record { one_each = h.says.one_each; says = λ set look ok. h.says.says set look (agrees_before now new set more ok) };
      in_range = All-weaker (IsSignal (size now)) (IsSignal (size new)) (λ y h. (h.0, (let g = h.1 in omega (arith, g, n)))) ss h.in_range;
    }

-- the values so far, and the value at one more cell
valued_more : (now new : Network) (w : Wiring) (k : ℕ) (f : Automaton) (at : Cell) (cs : List Cell) (sss : List (List Signal)) (c : Cell) (ss : List Signal) → Extends now new →
    AreValued now w k f at cs sss → IsValued new w k f (shifted at.position c) ss → AreValued new w k f at (cs ++ c ∷ []) (sss ++ ss ∷ [])
valued_more now new w k f at [] [] c ss more h here = (here, tt)
valued_more now new w k f at [] (x ∷ sss) c ss more h here = absurd h
valued_more now new w k f at (d ∷ cs) [] c ss more h here = absurd h
valued_more now new w k f at (d ∷ cs) (x ∷ sss) c ss more h here =
    (still_valued now new w k f (shifted at.position d) x more h.0, valued_more now new w k f at cs sss c ss more h.1 here)

abbrev pub there_of : Cell → List Cell → List Cell
there_of at cs = map (shifted at.position) cs

-- the state after the values at the first i cells
pub record Composing (k : ℕ) (f : Automaton) (w : Wiring) (cs : List Cell) (at : Cell) (i : ℕ) (start now : Network) (values : Wiring) : Type 0 where
  pub extends : Extends start now
  pub wiring_left : (inner_made (value_made k f) w unwired (there_of at cs) (size start)).wiring ≡ (inner_made (value_made k f) w values (there_of at (drop i cs)) (size now)).wiring
  pub gates_left : start.gates ++ (inner_made (value_made k f) w unwired (there_of at cs) (size start)).gates ≡ now.gates ++ (inner_made (value_made k f) w values (there_of at (drop i cs)) (size now)).gates
  pub count_left : size now + length (inner_made (value_made k f) w values (there_of at (drop i cs)) (size now)).gates ≡ size start + length (inner_made (value_made k f) w unwired (there_of at cs) (size start)).gates
  pub values_are : AreValues now w k f (take i cs) at values

pub composing_start : (k : ℕ) (f : Automaton) (w : Wiring) (cs : List Cell) (at : Cell) (start : Network) (values : Wiring) → values ≡ unwired → Composing k f w cs at 0 start start values
composing_start k f w cs at start values none = record {
  extends = itself start;
  wiring_left = ap (λ v. (inner_made (value_made k f) w v (there_of at cs) (size start)).wiring) (sym none);
  gates_left = ap (λ v. start.gates ++ (inner_made (value_made k f) w v (there_of at cs) (size start)).gates) (sym none);
  count_left = ap (λ v. size start + length (inner_made (value_made k f) w v (there_of at cs) (size start)).gates) none;
  values_are = subst (AreValues start w k f [] at) (sym none) (record { cells = refl; each = tt });
}

module _ (k : ℕ) (f : Automaton) (w : Wiring) (cs : List Cell) (at : Cell) (i : ℕ) (start now : Network) (values : Wiring) (cell there : Cell) (p : Composing k f w cs at i start now values) (below : i < length cs)
    (is : cell ≡ get_or cs i cell) (placed : there ≡ shifted at.position cell) where
  left : inner_made (value_made k f) w values (there_of at (drop i cs)) (size now) ≡ inner_made (value_made k f) w values (there ∷ there_of at (drop (i + 1) cs)) (size now)
  left =
      ap (λ xs. inner_made (value_made k f) w values (there_of at xs) (size now)) (next_is cs i cell below is)
      ∙ ap (λ c. inner_made (value_made k f) w values (c ∷ there_of at (drop (i + 1) cs)) (size now)) (sym placed)

  pub size_more : size start ≤ size now
  size_more = let n = size-append start now p.extends.added p.extends.inputs p.extends.gates in omega (arith, n)

  -- what the value at the cell requires
  pub value_few : size start + length (inner_made (value_made k f) w unwired (there_of at cs) (size start)).gates ≤ 16777216 → size now + length (value_made k f w there (size now)).gates ≤ 16777216
  value_few few =
      let one = value_made k f w there (size now) in
      let rest = inner_made (value_made k f) w (with_cell values there one.signals) (there_of at (drop (i + 1) cs)) (size now + length one.gates) in
      let both = length-append one.gates rest.gates in
      let all = ap (λ (m : WiredMade). length m.gates) left in
      omega (arith, p.count_left, few, both, all)

  pub value_wired : AreWired (size start) k w f cs at → are_wired_there (size now) k w ((counted f).reads there.node) there ≡ true
  value_wired wired =
      let here = passes_at (λ c. are_wired_there (size start) k w ((counted f).reads c.node) (shifted at.position c)) cs i cell wired below is in
      let one : are_wired_there (size start) k w ((counted f).reads there.node) there ≡ true = ap (λ c. are_wired_there (size start) k w ((counted f).reads c.node) c) placed ∙ here in
      still_wired (size start) (size now) k w there size_more ((counted f).reads there.node) one

  pub value_inside : (d : ℕ) → list_all is_near cs ≡ true → extent at.position + 16 * d + 32 ≤ 1048576 → extent there.position + 16 * d + 16 ≤ 1048576
  value_inside d near inside =
      let close = leb-true (extent cell.position) 16 (passes_at is_near cs i cell near below is) in
      let far = extent_moved cell.position at.position in
      let same : extent there.position ≡ extent (moved cell.position at.position) = ap (λ (c : Cell). extent c.position) placed in
      omega (arith, close, far, same, inside)

  pub composing_step : (new : Network) (signals : List Signal) (more : Wiring) → Extends now new → signals ≡ (value_made k f w there (size now)).signals →
      new.gates ≡ now.gates ++ (value_made k f w there (size now)).gates → All (IsSignal (size new)) signals → SaysValue new w k f there signals → more ≡ with_cell values there signals →
      Composing k f w cs at (i + 1) start new more
  composing_step new signals more extends signals_are gates ok says grown =
      let one = value_made k f w there (size now) in
      let tail = there_of at (drop (i + 1) cs) in
      let n : size new ≡ size now + length one.gates = size-append now new one.gates extends.inputs gates in
      let wired : with_cell values there one.signals ≡ more = ap (with_cell values there) (sym signals_are) ∙ sym grown in
      let rest : inner_made (value_made k f) w (with_cell values there one.signals) tail (size now + length one.gates) ≡ inner_made (value_made k f) w more tail (size new) =
      ap (λ v. inner_made (value_made k f) w v tail (size now + length one.gates)) wired ∙ ap (inner_made (value_made k f) w more tail) (sym n) in
      let later = inner_made (value_made k f) w more tail (size new) in
      let both = length-append one.gates (inner_made (value_made k f) w (with_cell values there one.signals) tail (size now + length one.gates)).gates in
      let all = ap (λ (m : WiredMade). length m.gates) left in
      let moved_on = ap (λ (m : WiredMade). length m.gates) rest in
      let here : IsValued new w k f (shifted at.position cell) signals = subst (λ c. IsValued new w k f c signals) placed (record { says = says; in_range = ok }) in
      record {
        extends = Extends-trans start now new p.extends extends;
        wiring_left = p.wiring_left ∙ (ap (λ (m : WiredMade). m.wiring) left ∙ ap (λ (m : WiredMade). m.wiring) rest);
        gates_left =
            p.gates_left
            ∙ (ap (λ (m : WiredMade). now.gates ++ m.gates) left
            ∙ (ap (λ (m : WiredMade). now.gates ++ (one.gates ++ m.gates)) rest
            ∙ (sym (append_assoc now.gates one.gates later.gates) ∙ ap (λ gs. gs ++ later.gates) (sym gates))));
        count_left = omega (arith, p.count_left, n, both, all, moved_on);
        values_are = record {
          cells =
              ap (λ (v : Wiring). v.cells) grown
              ∙ (ap (λ xs. xs ++ there ∷ []) p.values_are.cells
              ∙ (ap (λ c. there_of at (take i cs) ++ c ∷ []) placed
              ∙ (sym (map-append (shifted at.position) (take i cs) (cell ∷ [])) ∙ ap (there_of at) (sym (taken_is cs i cell below is)))));
          each =
              subst (λ xs. AreValued new w k f at xs more.signals) (sym (taken_is cs i cell below is))
              (subst (AreValued new w k f at (take i cs ++ cell ∷ [])) (ap (λ (v : Wiring). v.signals) (sym grown))
              (valued_more now new w k f at (take i cs) values.signals cell signals extends p.values_are.each here));
        };
      }

-- the state after the values at all cells
pub record Inner (k : ℕ) (f : Automaton) (w : Wiring) (cs : List Cell) (at : Cell) (start now : Network) (values : Wiring) : Type 0 where
  pub gates : now.gates ≡ start.gates ++ (inner_made (value_made k f) w unwired (there_of at cs) (size start)).gates
  pub wiring : values ≡ (inner_made (value_made k f) w unwired (there_of at cs) (size start)).wiring
  pub values_are : AreValues now w k f cs at values

append-none : (gs : List Gate) → gs ++ [] ≡ gs
append-none [] = refl
append-none (g ∷ gs) = ap (λ ys. g ∷ ys) (append-none gs)

pub composing_end : (k : ℕ) (f : Automaton) (w : Wiring) (cs : List Cell) (at : Cell) (i : ℕ) (start now : Network) (values : Wiring) → Composing k f w cs at i start now values → length cs ≤ i → Inner k f w cs at start now values
composing_end k f w cs at i start now values p past =
    let none : inner_made (value_made k f) w values (there_of at (drop i cs)) (size now) ≡ record { wiring = values; gates = [] } =
    ap (λ xs. inner_made (value_made k f) w values (there_of at xs) (size now)) (drop_all i cs past) in record {
      gates = sym (p.gates_left ∙ (ap (λ (m : WiredMade). now.gates ++ m.gates) none ∙ append-none now.gates));
      wiring = sym (p.wiring_left ∙ ap (λ (m : WiredMade). m.wiring) none);
      values_are = subst (λ xs. AreValues now w k f xs at values) (take_all i cs past) p.values_are;
    }
