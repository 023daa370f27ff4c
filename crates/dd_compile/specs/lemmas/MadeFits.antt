-- If the wires of an expansion's leaves have variables before its gates, each gate is over variables before its own, and the expansion's signal is a
-- signal of the circuit.
use Rattle.std.proofs.Common.{◌≡◌, ℕ, ◌+◌, ◌≤◌, Bool, true, false, List, [], ◌∷◌, ◌++◌, map, length, arith, length-append}
use Rattle.std.proofs.lemmas.{Bool.and_parts, List.Elements.All-cons, List.Elements.All-weaker}
use Rattle.std.specs.List.{list_all, All}
use Rattle.dd_lattice.specs.declared.position.Cell.{Cell}
use Rattle.dd_expansion.specs.declared.expanded.Expanded.{Expanded}
use Rattle.dd_expansion.specs.declared.expanded.Expanded.TheFolds.{fold-roll-Expanded, ind-Expanded, map-Expanded}
use Rattle.dd_expansion.specs.{declared.expanded.Expanded.TheOpen.Expanded-F, Leaves.leaves_pass, Leaves.leaves_pass_step}
use Rattle.dd_circuit.specs.declared.gates.{Signal.Signal, Gate.Gate}
use Rattle.dd_circuit.specs.declared.gates.Gate.TheVariants.{And, Or, Iff}
use Rattle.dd_circuit.specs.Circuits.{IsSignal, IsGate, AreGates}
use Rattle.dd_circuit.specs.lemmas.GateLists.{AreGates-append, AreGates-snoc, IsSignal-more}
use Rattle.dd_compile.specs.Compiling.{Made, AllMade, Maker, all_made, then_gate, made_step, made}

-- the wires of the leaves that pass p have variables among 1..m
abbrev pub Wired : ℕ → (Cell → ℕ → Signal) → (Cell → ℕ → Bool) → Type 0
Wired m wires p = (c : Cell) (s : ℕ) → p c s ≡ true → IsSignal m (wires c s)

abbrev pub IsMade : ℕ → Made → Type 0
IsMade n m = AreGates n m.gates × IsSignal (n + length m.gates) m.signal

abbrev pub AreMade : ℕ → AllMade → Type 0
AreMade n m = AreGates n m.gates × All (IsSignal (n + length m.gates)) m.signals

abbrev Fits : Expanded → Type 0
Fits e = (wires : Cell → ℕ → Signal) (p : Cell → ℕ → Bool) (m n : ℕ) → Wired m wires p → m ≤ n → leaves_pass p e ≡ true → IsMade n (made wires e n)

abbrev Known : Type 0
Known = (e : Expanded) × Fits e

abbrev layer : Expanded-F Known → Expanded-F Expanded
layer y = map-Expanded Known Expanded (λ e. e.0) y

abbrev plain : List Known → List Expanded
plain es = map (λ e. e.0) es

all_fit : (es : List Known) (wires : Cell → ℕ → Signal) (p : Cell → ℕ → Bool) (m n : ℕ) → Wired m wires p → m ≤ n →
    list_all (λ b. b) (map (leaves_pass p) (plain es)) ≡ true → AreMade n (all_made (map (made wires) (plain es)) n)
all_fit [] wires p m n w h ok = (tt, λ k d l. absurd (omega arith))
all_fit (e ∷ es) wires p m n w h ok =
    let both = and_parts (leaves_pass p e.0) (list_all (λ b. b) (map (leaves_pass p) (plain es))) ok in
    let one = made wires e.0 n in
    let first = e.1 wires p m n w h both.0 in
    let others = all_made (map (made wires) (plain es)) (n + length one.gates) in
    let rest = all_fit es wires p m (n + length one.gates) w (omega arith) both.1 in
    let l = length-append one.gates others.gates in
    let e1 : n + length one.gates + length others.gates ≡ n + length (one.gates ++ others.gates) = omega (arith, l) in (
      AreGates-append n one.gates others.gates first.0 rest.0,
      All-cons (IsSignal (n + length (one.gates ++ others.gates))) one.signal others.signals
          (IsSignal-more (n + length one.gates) (n + length (one.gates ++ others.gates)) (omega (arith, l)) one.signal first.1)
          (All-weaker (IsSignal (n + length one.gates + length others.gates)) (IsSignal (n + length (one.gates ++ others.gates)))
          (IsSignal-more (n + length one.gates + length others.gates) (n + length (one.gates ++ others.gates)) (omega (arith, l))) others.signals rest.1),
    )

then_fits : (n : ℕ) (gs : List Gate) (g : Gate) → AreGates n gs → IsGate (n + length gs) g → IsMade n (then_gate n gs g)
then_fits n gs g ok here =
    let l = length-append gs (g ∷ []) in
    (AreGates-snoc n gs g ok here, (omega arith, omega (arith, l)))

step_fits : (y : Expanded-F Known) (wires : Cell → ℕ → Signal) (p : Cell → ℕ → Bool) (m n : ℕ) → Wired m wires p → m ≤ n →
    leaves_pass_step p (map-Expanded Expanded Bool (leaves_pass p) (layer y)) ≡ true → IsMade n (made_step wires (map-Expanded Expanded Maker (made wires) (layer y)) n)
step_fits (Expanded-F.Constant true) wires p m n w h ok = then_fits n [] (And []) tt (λ k d l. absurd (omega arith))
step_fits (Expanded-F.Constant false) wires p m n w h ok = then_fits n [] (Or []) tt (λ k d l. absurd (omega arith))
step_fits (Expanded-F.Leaf c s) wires p m n w h ok = (tt, ((w c s ok).0, (let q = (w c s ok).1 in omega (arith, q, h))))
step_fits (Expanded-F.Not e) wires p m n w h ok = e.1 wires p m n w h ok
step_fits (Expanded-F.And es) wires p m n w h ok =
    let all = all_fit es wires p m n w h ok in
    then_fits n (all_made (map (made wires) (plain es)) n).gates (And (all_made (map (made wires) (plain es)) n).signals) all.0 all.1
step_fits (Expanded-F.Or es) wires p m n w h ok =
    let all = all_fit es wires p m n w h ok in
    then_fits n (all_made (map (made wires) (plain es)) n).gates (Or (all_made (map (made wires) (plain es)) n).signals) all.0 all.1
step_fits (Expanded-F.Iff e f) wires p m n w h ok =
    let both = and_parts (leaves_pass p e.0) (leaves_pass p f.0) ok in
    let left = made wires e.0 n in
    let right = made wires f.0 (n + length left.gates) in
    let first = e.1 wires p m n w h both.0 in
    let second = f.1 wires p m (n + length left.gates) w (omega arith) both.1 in
    let l = length-append left.gates right.gates in
    then_fits n (left.gates ++ right.gates) (Iff left.signal right.signal) (AreGates-append n left.gates right.gates first.0 second.0) (
      IsSignal-more (n + length left.gates) (n + length (left.gates ++ right.gates)) (omega (arith, l)) left.signal first.1,
      IsSignal-more (n + length left.gates + length right.gates) (n + length (left.gates ++ right.gates)) (omega (arith, l)) right.signal second.1,
    )

pub made_fits : (e : Expanded) → Fits e
made_fits = ind-Expanded Fits (λ x y is wires p m n w h.
    rw (fold-roll-Expanded Maker (made_step wires) x, fold-roll-Expanded Bool (leaves_pass_step p) x, ← is) (step_fits y wires p m n w h))
