-- If the wires of an expansion are replaced by others, the expansion's gates are the old gates, placed over the new wires.
use Rattle.std.proofs.Common.{◌≡◌, ℕ, ◌+◌, ◌-◌, Bool, true, false, List, [], ◌∷◌, ◌++◌, Option, Some, None, map, length, slice_get, refl, ap, sym, ◌∙◌, arith}
use Rattle.std.proofs.lemmas.{Bool.and_parts, List.map-append, List.length-map, Option.slice_get_past}
use Rattle.std.specs.{Prelude.not, List.list_all}
use Rattle.dd_lattice.specs.declared.position.Cell.{Cell}
use Rattle.dd_expansion.specs.declared.expanded.Expanded.{Expanded}
use Rattle.dd_expansion.specs.declared.expanded.Expanded.TheFolds.{fold-roll-Expanded, ind-Expanded, map-Expanded}
use Rattle.dd_expansion.specs.{declared.expanded.Expanded.TheOpen.Expanded-F, Leaves.LeafTest, Leaves.leaves_pass, Leaves.leaves_pass_step}
use Rattle.dd_circuit.specs.declared.gates.{Signal.Signal, Gate.Gate}
use Rattle.dd_circuit.specs.declared.gates.Gate.TheVariants.{And, Or, Iff}
use Rattle.dd_circuit.specs.Circuits.{signal_of, opposite}
use Rattle.dd_compile.specs.Compiling.{Made, AllMade, Maker, all_made, then_gate, made_step, made}
use Rattle.dd_compile.specs.placing.Placed.{signed, placed_by, placed, placed_gate}
use Rattle.dd_values.specs.lemmas.Booleans.{not_not}

opposite_twice : (s : Signal) → s ≡ opposite (opposite s)
opposite_twice s = λ i. record { variable = s.variable; positive = sym (not_not s.positive) i }

signed_opposite : (b : Bool) (s : Signal) → signed (not b) s ≡ opposite (signed b s)
signed_opposite true s = refl
signed_opposite false s = opposite_twice s

by_opposite : (o : Option Signal) (v : ℕ) (b : Bool) → placed_by o v (not b) ≡ opposite (placed_by o v b)
by_opposite None v b = refl
by_opposite (Some x) v b = signed_opposite b x

module _ (inputs : List Signal) (n : ℕ) where
  abbrev over : Signal → Signal
  over = placed inputs n

  abbrev gates_over : List Gate → List Gate
  gates_over gs = map (placed_gate inputs n) gs

  placed_opposite : (s : Signal) → over (opposite s) ≡ opposite (over s)
  placed_opposite s = by_opposite (slice_get inputs (s.variable - 1)) (n + (s.variable - length inputs)) s.positive

  -- the variables after the inputs are replaced by the variables after n, in order
  placed_later : (v k : ℕ) → v ≡ length inputs + k + 1 → over (signal_of v) ≡ signal_of (n + k + 1)
  placed_later v k is =
      let past : slice_get inputs (v - 1) ≡ None = slice_get_past inputs (v - 1) (omega (arith, is)) in
      ap (λ o. placed_by o (n + (v - length inputs)) true) past ∙ ap signal_of (omega (arith, is))

  pub record IsPlaced (a b : Made) : Type 0 where
    pub signal : b.signal ≡ placed inputs n a.signal
    pub gates : b.gates ≡ map (placed_gate inputs n) a.gates

  pub record AllPlaced (a b : AllMade) : Type 0 where
    pub signals : b.signals ≡ map (placed inputs n) a.signals
    pub gates : b.gates ≡ map (placed_gate inputs n) a.gates

  abbrev Places : Expanded → Type 0
  Places e =
      (one other : Cell → ℕ → Signal) (p : LeafTest) → ((c : Cell) (s : ℕ) → p c s ≡ true → placed inputs n (one c s) ≡ other c s) → leaves_pass p e ≡ true →
      (a b k : ℕ) → a ≡ length inputs + k → b ≡ n + k → IsPlaced (made one e a) (made other e b)

  abbrev Known : Type 0
  Known = (e : Expanded) × Places e

  abbrev plain : List Known → List Expanded
  plain es = map (λ e. e.0) es

  abbrev layer : Expanded-F Known → Expanded-F Expanded
  layer y = map-Expanded Known Expanded (λ e. e.0) y

  same_length : (gs hs : List Gate) → hs ≡ gates_over gs → length hs ≡ length gs
  same_length gs hs is = ap length is ∙ length-map gs (placed_gate inputs n)

  then_placed : (a b k : ℕ) → a ≡ length inputs + k → b ≡ n + k → (gs hs : List Gate) (g h : Gate) → hs ≡ gates_over gs → h ≡ placed_gate inputs n g →
      IsPlaced (then_gate a gs g) (then_gate b hs h)
  then_placed a b k first second gs hs g h all last =
      let l = same_length gs hs all in
      let next : b + length hs + 1 ≡ n + (k + length gs) + 1 = omega (arith, l, second) in
      record {
        signal = ap signal_of next ∙ sym (placed_later (a + length gs + 1) (k + length gs) (omega (arith, first)));
        gates = rw (all, last) (sym (map-append (placed_gate inputs n) gs (g ∷ [])));
      }

  module _ (one other : Cell → ℕ → Signal) (p : LeafTest) (wires : (c : Cell) (s : ℕ) → p c s ≡ true → placed inputs n (one c s) ≡ other c s) where
    all_placed : (es : List Known) → list_all (λ b. b) (map (leaves_pass p) (plain es)) ≡ true →
        (a b k : ℕ) → a ≡ length inputs + k → b ≡ n + k → AllPlaced (all_made (map (made one) (plain es)) a) (all_made (map (made other) (plain es)) b)
    all_placed [] ok a b k first second = record { signals = refl; gates = refl }
    all_placed (e ∷ es) ok a b k first second =
        let both = and_parts (leaves_pass p e.0) (list_all (λ b. b) (map (leaves_pass p) (plain es))) ok in
        let x = made one e.0 a in
        let y = made other e.0 b in
        let here = e.1 one other p wires both.0 a b k first second in
        let l = same_length x.gates y.gates here.gates in
        let rest = all_placed es both.1 (a + length x.gates) (b + length y.gates) (k + length x.gates) (omega (arith, first)) (omega (arith, second, l)) in
        record {
          signals = rw (rest.signals, here.signal) refl;
          gates = rw (rest.gates, here.gates) (sym (map-append (placed_gate inputs n) x.gates (all_made (map (made one) (plain es)) (a + length x.gates)).gates));
        }

    step_placed : (y : Expanded-F Known) → leaves_pass_step p (map-Expanded Expanded Bool (leaves_pass p) (layer y)) ≡ true →
        (a b k : ℕ) → a ≡ length inputs + k → b ≡ n + k →
        IsPlaced (made_step one (map-Expanded Expanded Maker (made one) (layer y)) a) (made_step other (map-Expanded Expanded Maker (made other) (layer y)) b)
    step_placed (Expanded-F.Constant true) ok a b k first second = then_placed a b k first second [] [] (And []) (And []) refl refl
    step_placed (Expanded-F.Constant false) ok a b k first second = then_placed a b k first second [] [] (Or []) (Or []) refl refl
    step_placed (Expanded-F.Leaf c s) ok a b k first second = record { signal = sym (wires c s ok); gates = refl }
    step_placed (Expanded-F.Not e) ok a b k first second =
        let inner = e.1 one other p wires ok a b k first second in
        record { signal = ap opposite inner.signal ∙ sym (placed_opposite (made one e.0 a).signal); gates = inner.gates }
    step_placed (Expanded-F.And es) ok a b k first second =
        let all = all_placed es ok a b k first second in
        then_placed a b k first second (all_made (map (made one) (plain es)) a).gates (all_made (map (made other) (plain es)) b).gates
        (And (all_made (map (made one) (plain es)) a).signals) (And (all_made (map (made other) (plain es)) b).signals) all.gates (ap And all.signals)
    step_placed (Expanded-F.Or es) ok a b k first second =
        let all = all_placed es ok a b k first second in
        then_placed a b k first second (all_made (map (made one) (plain es)) a).gates (all_made (map (made other) (plain es)) b).gates
        (Or (all_made (map (made one) (plain es)) a).signals) (Or (all_made (map (made other) (plain es)) b).signals) all.gates (ap Or all.signals)
    step_placed (Expanded-F.Iff e f) ok a b k first second =
        let both = and_parts (leaves_pass p e.0) (leaves_pass p f.0) ok in
        let x = made one e.0 a in
        let y = made other e.0 b in
        let left = e.1 one other p wires both.0 a b k first second in
        let l = same_length x.gates y.gates left.gates in
        let right = f.1 one other p wires both.1 (a + length x.gates) (b + length y.gates) (k + length x.gates) (omega (arith, first)) (omega (arith, second, l)) in
        let u = made one f.0 (a + length x.gates) in
        let v = made other f.0 (b + length y.gates) in
        then_placed a b k first second (x.gates ++ u.gates) (y.gates ++ v.gates) (Iff x.signal u.signal) (Iff y.signal v.signal)
        (rw (right.gates, left.gates) (sym (map-append (placed_gate inputs n) x.gates u.gates)))
        (rw (right.signal, left.signal) refl)

  pub made_placed : (e : Expanded) → Places e
  made_placed = ind-Expanded Places (λ x y is one other p wires.
      rw (fold-roll-Expanded Maker (made_step one) x, fold-roll-Expanded Maker (made_step other) x, fold-roll-Expanded Bool (leaves_pass_step p) x, ← is)
      (step_placed one other p wires y))
