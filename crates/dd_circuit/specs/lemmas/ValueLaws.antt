-- Let values of the inputs be given. Exactly one list starts with these values and then has the value of each gate: the list `values_from`. The first
-- lemmas say what a gate's value depends on, and the last ones say what one more gate adds to the list.
use Rattle.std.proofs.Common.{◌≡◌, ℕ, suc, ◌+◌, ◌<◌, ◌≤◌, Bool, true, false, List, [], ◌∷◌, ◌++◌, length, refl, ap, sym, ◌∙◌, arith, get_or, take, length-append, append_assoc}
use Rattle.std.proofs.lemmas.Bool.{and_parts}
use Rattle.std.proofs.lemmas.List.{append-nil, take_more, take_at, take_all, length-take-le, get_or-take, get_or_append_left}
use Rattle.std.proofs.{lemmas.List.Elements.All-tail, Math.Seq.get_or-append_seam, Math.Seq.take-suc}
use Rattle.std.specs.{Prelude.◌&&◌, Prelude.◌-◌, List.list_all, List.list_any, List.All, Bool.beq}
use Rattle.dd_circuit.specs.declared.gates.{Signal.Signal, Gate.Gate}
use Rattle.dd_circuit.specs.declared.gates.Gate.TheVariants.{And, Or, Iff}
use Rattle.dd_circuit.specs.Circuits.{Network, IsSignal, IsGate, AreGates, signal_value, gate_value, agrees}
use Rattle.dd_circuit.specs.{Valuations.values_from, Valuations.AreValues, lemmas.GateLists.gate_at}
use Rattle.dd_values.specs.{Variables.true_variables, lemmas.Booleans.same_from_beq, lemmas.Booleans.beq_same, lemmas.Booleans.and_assoc}

-- two assignments agree on the variables 1..n
abbrev pub Alike : ℕ → (ℕ → Bool) → (ℕ → Bool) → Type 0
Alike n set other = (k : ℕ) → 1 ≤ k → k ≤ n → set k ≡ other k

pub signal_value-alike : (n : ℕ) (set other : ℕ → Bool) → Alike n set other → (s : Signal) → IsSignal n s → signal_value set s ≡ signal_value other s
signal_value-alike n set other same s ok = rw (same s.variable ok.0 ok.1) refl

all_alike : (n : ℕ) (set other : ℕ → Bool) → Alike n set other → (ls : List Signal) → All (IsSignal n) ls → list_all (signal_value set) ls ≡ list_all (signal_value other) ls
all_alike n set other same [] ok = refl
all_alike n set other same (l ∷ ls) ok =
    rw (signal_value-alike n set other same l (ok 0 l (omega arith)), all_alike n set other same ls (All-tail (IsSignal n) l ls ok)) refl

any_alike : (n : ℕ) (set other : ℕ → Bool) → Alike n set other → (ls : List Signal) → All (IsSignal n) ls → list_any (signal_value set) ls ≡ list_any (signal_value other) ls
any_alike n set other same [] ok = refl
any_alike n set other same (l ∷ ls) ok =
    rw (signal_value-alike n set other same l (ok 0 l (omega arith)), any_alike n set other same ls (All-tail (IsSignal n) l ls ok)) refl

-- the value of a gate over the variables 1..n depends only on the values of these variables
pub gate_value-alike : (n : ℕ) (set other : ℕ → Bool) → Alike n set other → (g : Gate) → IsGate n g → gate_value set g ≡ gate_value other g
gate_value-alike n set other same (And ls) ok = all_alike n set other same ls ok
gate_value-alike n set other same (Or ls) ok = any_alike n set other same ls ok
gate_value-alike n set other same (Iff a b) ok = rw (signal_value-alike n set other same a ok.0, signal_value-alike n set other same b ok.1) refl

pub agrees-append : (set : ℕ → Bool) (n : ℕ) (gs hs : List Gate) → agrees set n (gs ++ hs) ≡ (agrees set n gs && agrees set (n + length gs) hs)
agrees-append set n [] hs = let e : n + 0 ≡ n = omega arith in rw e refl
agrees-append set n (g ∷ gs) hs =
    let e : n + suc (length gs) ≡ suc n + length gs = omega arith in
    rw (e, agrees-append set (suc n) gs hs) (and_assoc (beq (set (suc n)) (gate_value set g)) (agrees set (suc n) gs) (agrees set (suc n + length gs) hs))

pub values_from-append : (vs : List Bool) (gs hs : List Gate) → values_from vs (gs ++ hs) ≡ values_from (values_from vs gs) hs
values_from-append vs [] hs = refl
values_from-append vs (g ∷ gs) hs = values_from-append (vs ++ gate_value (true_variables vs) g ∷ []) gs hs

pub length-values_from : (vs : List Bool) (gs : List Gate) → length (values_from vs gs) ≡ length vs + length gs
length-values_from vs [] = omega arith
length-values_from vs (g ∷ gs) =
    let one = length-append vs (gate_value (true_variables vs) g ∷ []) in
    let rest = length-values_from (vs ++ gate_value (true_variables vs) g ∷ []) gs in
    omega (arith, one, rest)

front : (vs ws : List Bool) (k : ℕ) → 1 ≤ k → k ≤ length vs → true_variables (vs ++ ws) k ≡ true_variables vs k
front vs ws k p q = get_or_append_left vs ws false (k - 1) (omega arith)

last_value : (vs : List Bool) (b : Bool) (n : ℕ) → length vs ≡ n → true_variables (vs ++ b ∷ []) (suc n) ≡ b
last_value vs b n e = let i : suc n - 1 ≡ length vs = omega (arith, e) in rw i (get_or-append_seam vs b [] false)

one_more : (vs : List Bool) (b : Bool) (n : ℕ) → length vs ≡ n → length (vs ++ b ∷ []) ≡ suc n
one_more vs b n e = let h = length-append vs (b ∷ []) in omega (arith, h, e)

-- the gates `gs` leave the values vs of the first n variables unchanged
pub values_from-alike : (gs : List Gate) (vs : List Bool) (n : ℕ) → length vs ≡ n → Alike n (true_variables (values_from vs gs)) (true_variables vs)
values_from-alike [] vs n e k p q = refl
values_from-alike (g ∷ gs) vs n e k p q =
    values_from-alike gs (vs ++ gate_value (true_variables vs) g ∷ []) (suc n) (one_more vs _ n e) k p (omega arith) ∙ front vs _ k p (omega (arith, e))

-- in the list `values_from`, each gate's variable has the gate's value
pub agrees-values_from : (gs : List Gate) (vs : List Bool) (n : ℕ) → length vs ≡ n → AreGates n gs → agrees (true_variables (values_from vs gs)) n gs ≡ true
agrees-values_from [] vs n e ok = refl
agrees-values_from (g ∷ gs) vs n e ok =
    let b = gate_value (true_variables vs) g in
    let ws = vs ++ b ∷ [] in
    let set = true_variables (values_from ws gs) in
    let kept = values_from-alike gs ws (suc n) (one_more vs b n e) in
    let this : set (suc n) ≡ b = kept (suc n) (omega arith) (omega arith) ∙ last_value vs b n e in
    let that : gate_value set g ≡ b =
    gate_value-alike n set (true_variables vs) (λ k p q. kept k p (omega arith) ∙ front vs (b ∷ []) k p (omega (arith, e))) g ok.0 in
    rw (this, that, beq_same b, agrees-values_from gs ws (suc n) (one_more vs b n e) ok.1) refl

take-values_from : (gs : List Gate) (vs ws : List Bool) (n : ℕ) → length vs ≡ n → take n (values_from (vs ++ ws) gs) ≡ vs
take-values_from [] vs ws n e = take_at vs ws n e
take-values_from (g ∷ gs) vs ws n e =
    let b = gate_value (true_variables (vs ++ ws)) g in
    rw (append_assoc vs ws (b ∷ [])) (take-values_from gs vs (ws ++ b ∷ []) n e)

pub are_values : (circuit : Network) (inputs values : List Bool) → length inputs ≡ circuit.inputs → AreGates circuit.inputs circuit.gates →
    values ≡ values_from inputs circuit.gates → AreValues circuit inputs values
are_values circuit inputs values e ok is = record {
  one_each = let l = length-values_from inputs circuit.gates in rw is (omega (arith, l, e));
  inputs_first = rw is (rw (append-nil inputs) at (take-values_from circuit.gates inputs [] circuit.inputs e));
  gates_follow = rw is (agrees-values_from circuit.gates inputs circuit.inputs e ok);
}

-- after the last gate the values are those of the whole circuit
pub values_done : (circuit : Network) (inputs values : List Bool) (gs : List Gate) (i : ℕ) → length inputs ≡ circuit.inputs → AreGates circuit.inputs gs →
    gs ≡ circuit.gates → length gs ≤ i → values ≡ values_from inputs (take i gs) → AreValues circuit inputs values
values_done circuit inputs values gs i e ok same all is =
    are_values circuit inputs values e (rw same at ok) (is ∙ ap (values_from inputs) (take_all i gs all ∙ same))

-- if a list starts with the values vs, has one more value for each gate, and gives each gate's variable the gate's value, then it
-- is `values_from`
unique : (gs : List Gate) (vs ws : List Bool) (n : ℕ) → length ws ≡ n + length gs → AreGates n gs → take n ws ≡ vs →
    agrees (true_variables ws) n gs ≡ true → ws ≡ values_from vs gs
unique [] vs ws n e ok begins said = sym (take_all n ws (omega (arith, e))) ∙ begins
unique (g ∷ gs) vs ws n e ok begins said =
    let set = true_variables ws in
    let b = gate_value (true_variables vs) g in
    let parts = and_parts (beq (set (suc n)) (gate_value set g)) (agrees set (suc n) gs) said in
    let alike : Alike n set (true_variables vs) = λ k p q. sym (get_or-take n ws (k - 1) false (omega arith)) ∙ ap (λ xs. true_variables xs k) begins in
    let this : set (suc n) ≡ b = same_from_beq (set (suc n)) (gate_value set g) parts.0 ∙ gate_value-alike n set (true_variables vs) alike g ok.0 in
    let at : suc n - 1 ≡ n = omega arith in
    let here : get_or ws n false ≡ b = ap (λ k. get_or ws k false) (sym at) ∙ this in
    let more : take (suc n) ws ≡ vs ++ b ∷ [] = take-suc ws n false (omega (arith, e)) ∙ rw (begins, here) refl in
    unique gs (vs ++ b ∷ []) ws (suc n) (omega (arith, e)) ok.1 more parts.1

pub AreValues-unique : (circuit : Network) (inputs values : List Bool) → AreGates circuit.inputs circuit.gates → AreValues circuit inputs values →
    values ≡ values_from inputs circuit.gates
AreValues-unique circuit inputs values ok are = unique circuit.gates inputs values circuit.inputs are.one_each ok are.inputs_first are.gates_follow

pub values_only : (circuit : Network) (inputs values : List Bool) (gs : List Gate) (i : ℕ) → AreGates circuit.inputs gs →
    gs ≡ circuit.gates → length gs ≤ i → values ≡ values_from inputs (take i gs) → (others : List Bool) → AreValues circuit inputs others → others ≡ values
values_only circuit inputs values gs i ok same all is others are =
    AreValues-unique circuit inputs others (rw same at ok) are ∙ sym (is ∙ ap (values_from inputs) (take_all i gs all ∙ same))

-- once the inputs and the gates before index i have values, the variables of the members of the gate at index i have values too
pub gate_here : (n : ℕ) (inputs vs : List Bool) (gs : List Gate) (i : ℕ) (g : Gate) → length inputs ≡ n → AreGates n gs → i < length gs →
    vs ≡ values_from inputs (take i gs) → g ≡ get_or gs i g → IsGate (length vs) g
gate_here n inputs vs gs i g full ok within is here =
    let few = length-take-le i gs (omega arith) in
    let so_far = length-values_from inputs (take i gs) in
    let e : n + i ≡ length vs = rw is (omega (arith, few, so_far, full)) in
    rw (← e, here) (gate_at n gs i g ok within)

-- one more gate puts its value at the end of the list
values_more : (inputs : List Bool) (gs : List Gate) (i : ℕ) (g : Gate) → i < length gs → g ≡ get_or gs i g →
    values_from inputs (take (i + 1) gs) ≡ values_from inputs (take i gs) ++ gate_value (true_variables (values_from inputs (take i gs))) g ∷ []
values_more inputs gs i g within here =
    ap (values_from inputs) (take_more gs i g within)
    ∙ (values_from-append inputs (take i gs) (get_or gs i g ∷ [])
    ∙ ap (λ x. values_from inputs (take i gs) ++ gate_value (true_variables (values_from inputs (take i gs))) x ∷ []) (sym here))

pub values_step : (inputs items seen new : List Bool) (value : Bool) (gs : List Gate) (i : ℕ) (g : Gate) → i < length gs → g ≡ get_or gs i g →
    items ≡ values_from inputs (take i gs) → seen ≡ items → value ≡ gate_value (true_variables seen) g → new ≡ items ++ value ∷ [] →
    new ≡ values_from inputs (take (i + 1) gs)
values_step inputs items seen new value gs i g within here is same said pushed =
    rw (pushed, said, same, is) (sym (values_more inputs gs i g within here))
