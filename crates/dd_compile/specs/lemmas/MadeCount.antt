-- How many gates an expansion has. Of the wires, only those of the leaves matter for these gates.
use Rattle.std.proofs.Common.{◌≡◌, ℕ, ◌+◌, Bool, true, List, [], ◌∷◌, ◌++◌, map, length, refl, ap, ◌∙◌, arith, length-append}
use Rattle.std.proofs.lemmas.Bool.{and_parts}
use Rattle.std.specs.List.{list_all}
use Rattle.dd_lattice.specs.declared.position.Cell.{Cell}
use Rattle.dd_expansion.specs.declared.expanded.Expanded.{Expanded}
use Rattle.dd_expansion.specs.declared.expanded.Expanded.TheFolds.{fold-roll-Expanded, ind-Expanded, map-Expanded}
use Rattle.dd_expansion.specs.declared.expanded.Expanded.TheOpen.{Expanded-F}
use Rattle.dd_expansion.specs.Leaves.{LeafTest, leaves_pass, leaves_pass_step, total}
use Rattle.dd_circuit.specs.declared.gates.{Signal.Signal, Gate.Gate}
use Rattle.dd_circuit.specs.declared.gates.Gate.TheVariants.{And, Or, Iff}
use Rattle.dd_circuit.specs.Circuits.{opposite}
use Rattle.dd_compile.specs.Compiling.{Made, AllMade, Maker, made_of, all_made, then_gate, made_step, made, gate_count, gate_count_step}

abbrev Counts : Expanded → Type 0
Counts e = (wires : Cell → ℕ → Signal) (n : ℕ) → length (made wires e n).gates ≡ gate_count e

abbrev Counted : Type 0
Counted = (e : Expanded) × Counts e

abbrev plain : List Counted → List Expanded
plain es = map (λ e. e.0) es

abbrev layer : Expanded-F Counted → Expanded-F Expanded
layer y = map-Expanded Counted Expanded (λ e. e.0) y

all_counted : (es : List Counted) (wires : Cell → ℕ → Signal) (n : ℕ) → length (all_made (map (made wires) (plain es)) n).gates ≡ total (map gate_count (plain es))
all_counted [] wires n = refl
all_counted (e ∷ es) wires n =
    let one = made wires e.0 n in
    let rest = all_counted es wires (n + length one.gates) in
    let first = e.1 wires n in
    let l = length-append one.gates (all_made (map (made wires) (plain es)) (n + length one.gates)).gates in
    omega (arith, rest, first, l)

one_more : (gs : List Gate) (g : Gate) (k : ℕ) → length gs ≡ k → length (gs ++ g ∷ []) ≡ k + 1
one_more gs g k e = let l = length-append gs (g ∷ []) in omega (arith, l, e)

step_counts : (y : Expanded-F Counted) (wires : Cell → ℕ → Signal) (n : ℕ) → length (made_step wires (map-Expanded Expanded Maker (made wires) (layer y)) n).gates ≡
    gate_count_step (map-Expanded Expanded ℕ gate_count (layer y))
step_counts (Expanded-F.Constant b) wires n = refl
step_counts (Expanded-F.Leaf c s) wires n = refl
step_counts (Expanded-F.Not e) wires n = e.1 wires n
step_counts (Expanded-F.And es) wires n =
    let m = all_made (map (made wires) (plain es)) n in
    one_more m.gates (And m.signals) (total (map gate_count (plain es))) (all_counted es wires n)
step_counts (Expanded-F.Or es) wires n =
    let m = all_made (map (made wires) (plain es)) n in
    one_more m.gates (Or m.signals) (total (map gate_count (plain es))) (all_counted es wires n)
step_counts (Expanded-F.Iff e f) wires n =
    let left = made wires e.0 n in
    let right = made wires f.0 (n + length left.gates) in
    let l = length-append left.gates right.gates in
    let one = e.1 wires n in
    let two = f.1 wires (n + length left.gates) in
    one_more (left.gates ++ right.gates) (Iff left.signal right.signal) (gate_count e.0 + gate_count f.0) (omega (arith, l, one, two))

pub made_count : (e : Expanded) → Counts e
made_count = ind-Expanded Counts (λ x y is wires n.
    rw (fold-roll-Expanded Maker (made_step wires) x, fold-roll-Expanded ℕ gate_count_step x, ← is) (step_counts y wires n))

-- `wires` and `other` give the same wires to the leaves that pass p
abbrev pub AreSame : LeafTest → (Cell → ℕ → Signal) → (Cell → ℕ → Signal) → Type 0
AreSame p wires other = (c : Cell) (s : ℕ) → p c s ≡ true → wires c s ≡ other c s

abbrev Depends : Expanded → Type 0
Depends e = (p : LeafTest) (wires other : Cell → ℕ → Signal) (n : ℕ) → AreSame p wires other → leaves_pass p e ≡ true → made wires e n ≡ made other e n

abbrev Known : Type 0
Known = (e : Expanded) × Depends e

abbrev bare : List Known → List Expanded
bare es = map (λ e. e.0) es

abbrev bare_layer : Expanded-F Known → Expanded-F Expanded
bare_layer y = map-Expanded Known Expanded (λ e. e.0) y

abbrev after : Made → AllMade → AllMade
after m rest = record { signals = m.signal ∷ rest.signals; gates = m.gates ++ rest.gates }

all_depend : (es : List Known) (p : LeafTest) (wires other : Cell → ℕ → Signal) (n : ℕ) → AreSame p wires other → list_all (λ b. b) (map (leaves_pass p) (bare es)) ≡ true →
    all_made (map (made wires) (bare es)) n ≡ all_made (map (made other) (bare es)) n
all_depend [] p wires other n same h = refl
all_depend (e ∷ es) p wires other n same h =
    let both = and_parts (leaves_pass p e.0) (list_all (λ b. b) (map (leaves_pass p) (bare es))) h in
    let one : made wires e.0 n ≡ made other e.0 n = e.1 p wires other n same both.0 in
    ap (λ m. after m (all_made (map (made wires) (bare es)) (n + length m.gates))) one
    ∙ ap (after (made other e.0 n)) (all_depend es p wires other (n + length (made other e.0 n).gates) same both.1)

abbrev iff_made : ℕ → Made → Made → Made
iff_made n left right = then_gate n (left.gates ++ right.gates) (Iff left.signal right.signal)

step_depends : (y : Expanded-F Known) (p : LeafTest) (wires other : Cell → ℕ → Signal) (n : ℕ) → AreSame p wires other →
    leaves_pass_step p (map-Expanded Expanded Bool (leaves_pass p) (bare_layer y)) ≡ true →
    made_step wires (map-Expanded Expanded Maker (made wires) (bare_layer y)) n ≡ made_step other (map-Expanded Expanded Maker (made other) (bare_layer y)) n
step_depends (Expanded-F.Constant b) p wires other n same h = refl
step_depends (Expanded-F.Leaf c s) p wires other n same h = ap (λ x. made_of x []) (same c s h)
step_depends (Expanded-F.Not e) p wires other n same h = ap (λ m. made_of (opposite m.signal) m.gates) (e.1 p wires other n same h)
step_depends (Expanded-F.And es) p wires other n same h = ap (λ m. then_gate n m.gates (And m.signals)) (all_depend es p wires other n same h)
step_depends (Expanded-F.Or es) p wires other n same h = ap (λ m. then_gate n m.gates (Or m.signals)) (all_depend es p wires other n same h)
step_depends (Expanded-F.Iff e f) p wires other n same h =
    let both = and_parts (leaves_pass p e.0) (leaves_pass p f.0) h in
    ap (λ m. iff_made n m (made wires f.0 (n + length m.gates))) (e.1 p wires other n same both.0)
    ∙ ap (iff_made n (made other e.0 n)) (f.1 p wires other (n + length (made other e.0 n).gates) same both.1)

pub made_same : (e : Expanded) → Depends e
made_same = ind-Expanded Depends (λ x y is p wires other n same.
    rw (fold-roll-Expanded Maker (made_step wires) x, fold-roll-Expanded Maker (made_step other) x, fold-roll-Expanded Bool (leaves_pass_step p) x, ← is) (step_depends y p wires other n same))
