-- If the wires of an expansion's leaves say which symbols cells have, the signal of its gates has the expansion's value.
use Rattle.std.proofs.Common.{◌≡◌, ℕ, suc, ◌+◌, Bool, true, false, List, [], ◌∷◌, ◌++◌, map, length, refl, ap, sym, ◌∙◌, arith}
use Rattle.std.proofs.lemmas.Bool.{and_parts}
use Rattle.std.specs.{Prelude.not, Prelude.if◌then◌else◌, List.list_all, List.list_any, Bool.beq}
use Rattle.dd_lattice.specs.declared.position.Cell.{Cell}
use Rattle.dd_expansion.specs.declared.expanded.Expanded.{Expanded}
use Rattle.dd_expansion.specs.declared.expanded.Expanded.TheFolds.{fold-roll-Expanded, ind-Expanded, map-Expanded}
use Rattle.dd_expansion.specs.{declared.expanded.Expanded.TheOpen.Expanded-F, Truth.is_symbol}
use Rattle.dd_expansion.specs.Leaves.{holds, holds_step, leaves_pass, leaves_pass_step}
use Rattle.dd_pattern.specs.Reading.{Look}
use Rattle.dd_circuit.specs.declared.gates.{Signal.Signal, Gate.Gate}
use Rattle.dd_circuit.specs.declared.gates.Gate.TheVariants.{And, Or, Iff}
use Rattle.dd_circuit.specs.{Circuits.signal_value, Circuits.gate_value, Circuits.agrees, Circuits.opposite, lemmas.ValueLaws.agrees-append}
use Rattle.dd_compile.specs.Compiling.{Maker, all_made, then_gate, made_step, made}
use Rattle.dd_values.specs.lemmas.Booleans.{same_from_beq, if_not}

-- each wire whose cell and symbol pass p says whether `look` gives that cell that symbol
abbrev pub Tell : (ℕ → Bool) → (Cell → ℕ → Signal) → (Cell → ℕ → Bool) → Look → Type 0
Tell set wires p look = (c : Cell) (s : ℕ) → p c s ≡ true → signal_value set (wires c s) ≡ is_symbol s (look c)

abbrev Says : Expanded → Type 0
Says e =
    (set : ℕ → Bool) (wires : Cell → ℕ → Signal) (p : Cell → ℕ → Bool) (look : Look) (n : ℕ) → Tell set wires p look → leaves_pass p e ≡ true →
    agrees set n (made wires e n).gates ≡ true → signal_value set (made wires e n).signal ≡ holds e look

abbrev Known : Type 0
Known = (e : Expanded) × Says e

abbrev layer : Expanded-F Known → Expanded-F Expanded
layer y = map-Expanded Known Expanded (λ e. e.0) y

abbrev plain : List Known → List Expanded
plain es = map (λ e. e.0) es

-- the signals of all parts have the values of the parts
all_say : (es : List Known) (set : ℕ → Bool) (wires : Cell → ℕ → Signal) (p : Cell → ℕ → Bool) (look : Look) (n : ℕ) → Tell set wires p look →
    list_all (λ b. b) (map (leaves_pass p) (plain es)) ≡ true → agrees set n (all_made (map (made wires) (plain es)) n).gates ≡ true →
    map (signal_value set) (all_made (map (made wires) (plain es)) n).signals ≡ map (λ h. h look) (map holds (plain es))
all_say [] set wires p look n tell wired ok = refl
all_say (e ∷ es) set wires p look n tell wired ok =
    let w = and_parts (leaves_pass p e.0) (list_all (λ b. b) (map (leaves_pass p) (plain es))) wired in
    let gs = (made wires e.0 n).gates in
    let hs = (all_made (map (made wires) (plain es)) (n + length gs)).gates in
    let both = and_parts (agrees set n gs) (agrees set (n + length gs) hs) (sym (agrees-append set n gs hs) ∙ ok) in
    rw (e.1 set wires p look n tell w.0 both.0, all_say es set wires p look (n + length gs) tell w.1 both.1) refl

-- if all gates have their values, so have the gates before the last one, and the last gate's signal has that gate's value
pub last_gate : (set : ℕ → Bool) (n : ℕ) (gs : List Gate) (g : Gate) → agrees set n (then_gate n gs g).gates ≡ true →
    (agrees set n gs ≡ true) × (signal_value set (then_gate n gs g).signal ≡ gate_value set g)
last_gate set n gs g ok =
    let both = and_parts (agrees set n gs) (agrees set (n + length gs) (g ∷ [])) (sym (agrees-append set n gs (g ∷ [])) ∙ ok) in
    let one = and_parts (beq (set (suc (n + length gs))) (gate_value set g)) true both.1 in
    let e : n + length gs + 1 ≡ suc (n + length gs) = omega arith in
    (both.0, rw e (same_from_beq _ _ one.0))

list_all-as-map : {X : Type 0} (p : X → Bool) (xs : List X) → list_all p xs ≡ list_all (λ b. b) (map p xs)
list_all-as-map p [] = refl
list_all-as-map p (x ∷ xs) = rw (list_all-as-map p xs) refl

list_any-as-map : {X : Type 0} (p : X → Bool) (xs : List X) → list_any p xs ≡ list_any (λ b. b) (map p xs)
list_any-as-map p [] = refl
list_any-as-map p (x ∷ xs) = rw (list_any-as-map p xs) refl

pub opposite_value : (set : ℕ → Bool) (s : Signal) → signal_value set (opposite s) ≡ not (signal_value set s)
opposite_value set s = if_not s.positive (set s.variable)

constant_value : (set : ℕ → Bool) (b : Bool) → gate_value set (if b then And [] else Or []) ≡ b
constant_value set true = refl
constant_value set false = refl

step_says : (y : Expanded-F Known) (set : ℕ → Bool) (wires : Cell → ℕ → Signal) (p : Cell → ℕ → Bool) (look : Look) (n : ℕ) → Tell set wires p look →
    leaves_pass_step p (map-Expanded Expanded Bool (leaves_pass p) (layer y)) ≡ true →
    agrees set n (made_step wires (map-Expanded Expanded Maker (made wires) (layer y)) n).gates ≡ true →
    signal_value set (made_step wires (map-Expanded Expanded Maker (made wires) (layer y)) n).signal ≡ holds_step (map-Expanded Expanded (Look → Bool) holds (layer y)) look
step_says (Expanded-F.Constant b) set wires p look n tell wired ok = (last_gate set n [] (if b then And [] else Or []) ok).1 ∙ constant_value set b
step_says (Expanded-F.Leaf c s) set wires p look n tell wired ok = tell c s wired
step_says (Expanded-F.Not e) set wires p look n tell wired ok = opposite_value set (made wires e.0 n).signal ∙ ap not (e.1 set wires p look n tell wired ok)
step_says (Expanded-F.And es) set wires p look n tell wired ok =
    let m = all_made (map (made wires) (plain es)) n in
    let both = last_gate set n m.gates (And m.signals) ok in
    both.1 ∙ (list_all-as-map (signal_value set) m.signals ∙ (ap (list_all (λ b. b)) (all_say es set wires p look n tell wired both.0) ∙ sym (list_all-as-map (λ h. h look) (map holds (plain es)))))
step_says (Expanded-F.Or es) set wires p look n tell wired ok =
    let m = all_made (map (made wires) (plain es)) n in
    let both = last_gate set n m.gates (Or m.signals) ok in
    both.1 ∙ (list_any-as-map (signal_value set) m.signals ∙ (ap (list_any (λ b. b)) (all_say es set wires p look n tell wired both.0) ∙ sym (list_any-as-map (λ h. h look) (map holds (plain es)))))
step_says (Expanded-F.Iff e f) set wires p look n tell wired ok =
    let left = made wires e.0 n in
    let right = made wires f.0 (n + length left.gates) in
    let last = last_gate set n (left.gates ++ right.gates) (Iff left.signal right.signal) ok in
    let both = and_parts (agrees set n left.gates) (agrees set (n + length left.gates) right.gates) (sym (agrees-append set n left.gates right.gates) ∙ last.0) in
    let w = and_parts (leaves_pass p e.0) (leaves_pass p f.0) wired in
    last.1 ∙ (ap (λ x. beq x (signal_value set right.signal)) (e.1 set wires p look n tell w.0 both.0)
    ∙ ap (λ x. beq (holds e.0 look) x) (f.1 set wires p look (n + length left.gates) tell w.1 both.1))

pub made_says : (e : Expanded) → Says e
made_says = ind-Expanded Says (λ x y is set wires p look n tell.
    rw (fold-roll-Expanded Maker (made_step wires) x, fold-roll-Expanded (Look → Bool) holds_step x, fold-roll-Expanded Bool (leaves_pass_step p) x, ← is) (step_says y set wires p look n tell))
