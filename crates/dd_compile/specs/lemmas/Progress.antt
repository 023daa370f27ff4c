-- The state while the gates of expansions are added, and the gate that joins them.
use Rattle.std.proofs.Common.{◌≡◌, ℕ, ◌+◌, ◌<◌, ◌≤◌, true, List, [], ◌∷◌, ◌++◌, map, length, drop, get_or, refl, ap, sym, subst, ◌∙◌, arith, length-append, append-nil, append_assoc, drop-cons, add-one, Ok, Err, Result}
use Rattle.std.proofs.lemmas.{Bool.and_parts, List.drop_all, List.Elements.All-push, List.Elements.All-weaker}
use Rattle.std.specs.{List.All, Result.IfOk, Result.OnErr, declared.alloc.AllocError.AllocError}
use Rattle.dd_lattice.specs.declared.position.Cell.{Cell}
use Rattle.dd_expansion.specs.declared.expanded.Expanded.{Expanded}
use Rattle.dd_circuit.specs.declared.gates.{Signal.Signal, Gate.Gate}
use Rattle.dd_circuit.specs.declared.gates.Gate.TheVariants.{And, Or, Iff}
use Rattle.dd_circuit.specs.Circuits.{Network, IsSignal, size, signal_of}
use Rattle.dd_compile.specs.Compiling.{Made, Wires, Extends, then_gate, all_made, made, certain, gate_count, all_counts, are_wired, all_wired}
use Rattle.dd_compile.specs.lemmas.Layers.{made_and, made_or, made_iff, all_wired-more}
use Rattle.dd_expansion.specs.declared.expanded.Expanded.TheVariants as v

pub size-append : (old new : Network) (gates : List Gate) → new.inputs ≡ old.inputs → new.gates ≡ old.gates ++ gates → size new ≡ size old + length gates
size-append old new gates inputs is =
    let e : length new.gates ≡ length old.gates + length gates = ap length is ∙ length-append old.gates gates in
    omega (arith, e, inputs)

pub Extends-trans : (a b c : Network) → Extends a b → Extends b c → Extends a c
Extends-trans a b c first rest = record {
  inputs = rest.inputs ∙ first.inputs;
  added = first.added ++ rest.added;
  gates = rest.gates ∙ (ap (λ gs. gs ++ rest.added) first.gates ∙ append_assoc a.gates first.added rest.added);
}

-- if a circuit extends another one, it still does when one more gate is added to it
pub one_more : (old mid new : Network) (g : Gate) → Extends old mid → new.inputs ≡ mid.inputs → new.gates ≡ mid.gates ++ g ∷ [] → Extends old new
one_more old mid new g so_far inputs gates = Extends-trans old mid new so_far (record { inputs = inputs; added = g ∷ []; gates = gates })

-- the same if one more gate is added, or none because memory ran out
pub at_most_one_more : (old mid new : Network) (g : Gate) (r : Result Signal AllocError) → Extends old mid → new.inputs ≡ mid.inputs → IfOk r (λ s. new.gates ≡ mid.gates ++ g ∷ []) →
    OnErr r (new ≡ mid) → Extends old new
at_most_one_more old mid new g (Ok s) so_far inputs gates same = one_more old mid new g so_far inputs gates
at_most_one_more old mid new g (Err x) so_far inputs gates same = subst (Extends old) (sym same) so_far

-- the state after the first i parts: the gates of all parts are those made so far and those of the parts from i on
pub record Progress (w : Wires) (parts : List Expanded) (i : ℕ) (start now : Network) (signals : List Signal) : Type 0 where
  pub extends : Extends start now
  pub signals_left : (all_made (map (made (certain w)) parts) (size start)).signals ≡ signals ++ (all_made (map (made (certain w)) (drop i parts)) (size now)).signals
  pub gates_left : start.gates ++ (all_made (map (made (certain w)) parts) (size start)).gates ≡ now.gates ++ (all_made (map (made (certain w)) (drop i parts)) (size now)).gates
  pub count_left : size now + all_counts (drop i parts) ≡ size start + all_counts parts
  pub wired : all_wired (size now) w (drop i parts) ≡ true
  pub in_range : All (IsSignal (size now)) signals

-- what the part at i requires
pub next_part : (w : Wires) (parts : List Expanded) (i : ℕ) (start now : Network) (signals : List Signal) (part : Expanded) → Progress w parts i start now signals → i < length parts →
    part ≡ get_or parts i part → (size now + gate_count part ≤ size start + all_counts parts) × (are_wired (size now) w part ≡ true)
next_part w parts i start now signals part p within here =
    let d : drop i parts ≡ part ∷ drop (i + 1) parts = drop-cons parts i part within ∙ rw (add-one i, ← here) refl in
    let c = ap all_counts d in
    let q = p.count_left in
    let both = and_parts (are_wired (size now) w part) (all_wired (size now) w (drop (i + 1) parts)) (sym (ap (all_wired (size now) w) d) ∙ p.wired) in
    (omega (arith, c, q), both.0)

pub progress_step : (w : Wires) (parts : List Expanded) (i : ℕ) (start now new : Network) (signals more : List Signal) (part : Expanded) (s : Signal) →
    Progress w parts i start now signals → i < length parts → part ≡ get_or parts i part →
    Extends now new → s ≡ (made (certain w) part (size now)).signal → new.gates ≡ now.gates ++ (made (certain w) part (size now)).gates → IsSignal (size new) s →
    size new ≡ size now + gate_count part → more ≡ signals ++ s ∷ [] → Progress w parts (i + 1) start new more
progress_step w parts i start now new signals more part s p within here extends signal gates ok count pushed =
    let f = made (certain w) in
    let one = f part (size now) in
    let d : drop i parts ≡ part ∷ drop (i + 1) parts = drop-cons parts i part within ∙ rw (add-one i, ← here) refl in
    let n : size new ≡ size now + length one.gates = size-append now new one.gates extends.inputs gates in
    let rest = all_made (map f (drop (i + 1) parts)) (size now + length one.gates) in
    let left : all_made (map f (drop i parts)) (size now) ≡ all_made (map f (part ∷ drop (i + 1) parts)) (size now) = ap (λ ps. all_made (map f ps) (size now)) d in
    let both = and_parts (are_wired (size now) w part) (all_wired (size now) w (drop (i + 1) parts)) (sym (ap (all_wired (size now) w) d) ∙ p.wired) in
    record {
      extends = Extends-trans start now new p.extends extends;
      signals_left = p.signals_left ∙ (ap (λ m. signals ++ m.signals) left ∙ rw (pushed, signal, n) (sym (append_assoc signals (one.signal ∷ []) rest.signals)));
      gates_left = p.gates_left ∙ (ap (λ m. now.gates ++ m.gates) left ∙ rw (n, gates) (sym (append_assoc now.gates one.gates rest.gates)));
      count_left = (let c = ap all_counts d in let q = p.count_left in omega (arith, c, q, count));
      wired = all_wired-more (size now) (size new) w (drop (i + 1) parts) (omega arith) both.1;
      in_range = rw pushed (All-push (IsSignal (size new)) signals s (All-weaker (IsSignal (size now)) (IsSignal (size new)) (λ x h. (h.0, (let g = h.1 in omega (arith, g, count)))) signals p.in_range) ok);
    }

-- the state after all parts
pub progress_end : (w : Wires) (parts : List Expanded) (i : ℕ) (start now : Network) (signals : List Signal) → Progress w parts i start now signals → length parts ≤ i →
    (size now ≡ size start + all_counts parts)
    × ((now.gates ≡ start.gates ++ (all_made (map (made (certain w)) parts) (size start)).gates) × (signals ≡ (all_made (map (made (certain w)) parts) (size start)).signals))
progress_end w parts i start now signals p past =
    let none : drop i parts ≡ [] = drop_all i parts past in
    let count = ap (λ ps. size now + all_counts ps) none in (
      omega (arith, count, p.count_left),
      (
        sym (p.gates_left ∙ (ap (λ ps. now.gates ++ (all_made (map (made (certain w)) ps) (size now)).gates) none ∙ append-nil now.gates)),
        sym (p.signals_left ∙ (ap (λ ps. signals ++ (all_made (map (made (certain w)) ps) (size now)).signals) none ∙ append-nil signals)),
      ),
    )

-- unless memory ran out, the added gates are those of m, and the returned signal is m's
abbrev Ends : Network → Network → Made → Result Signal AllocError → Type 0
Ends old new m r = IfOk r (λ s. new.gates ≡ old.gates ++ m.gates) × IfOk r (λ s. s ≡ m.signal)

ends : (old mid new : Network) (gates : List Gate) (g : Gate) (m : Made) (r : Result Signal AllocError) → m ≡ then_gate (size old) gates g →
    mid.inputs ≡ old.inputs → mid.gates ≡ old.gates ++ gates → new.inputs ≡ mid.inputs →
    IfOk r (λ s. new.gates ≡ mid.gates ++ g ∷ []) → IfOk r (λ s. s ≡ signal_of (size new)) → Ends old new m r
ends old mid new gates g m (Err x) is inputs made same adds signal = (tt, tt)
ends old mid new gates g m (Ok s) is inputs made same adds signal =
    let n = size-append old mid gates inputs made in
    let k = size-append mid new (g ∷ []) same adds in
    let next : size new ≡ size old + length gates + 1 = omega (arith, n, k) in (
      adds ∙ (ap (λ x. x ++ g ∷ []) made ∙ (append_assoc old.gates gates (g ∷ []) ∙ ap (λ x. old.gates ++ x.gates) (sym is))),
      signal ∙ (ap signal_of next ∙ ap (λ x. x.signal) (sym is)),
    )

pub and_ends : (w : Cell → ℕ → Signal) (e : Expanded) (parts slice : List Expanded) (old mid new : Network) (members seen : List Signal) (r : Result Signal AllocError) → e ≡ v.And parts → slice ≡ parts → seen ≡ members →
    Extends old mid → members ≡ (all_made (map (made w) slice) (size old)).signals → mid.gates ≡ old.gates ++ (all_made (map (made w) slice) (size old)).gates →
    new.inputs ≡ mid.inputs → IfOk r (λ s. new.gates ≡ mid.gates ++ And seen ∷ []) → IfOk r (λ s. s ≡ signal_of (size new)) → Ends old new (made w e (size old)) r
and_ends w e parts slice old mid new members seen r is same said extends signals gates inputs adds signal =
    ends old mid new (all_made (map (made w) slice) (size old)).gates (And seen) (made w e (size old)) r
    (ap (λ x. made w x (size old)) is ∙ (made_and w parts (size old) ∙ rw (said, signals, same) refl)) extends.inputs gates inputs adds signal

pub or_ends : (w : Cell → ℕ → Signal) (e : Expanded) (parts slice : List Expanded) (old mid new : Network) (members seen : List Signal) (r : Result Signal AllocError) → e ≡ v.Or parts → slice ≡ parts → seen ≡ members →
    Extends old mid → members ≡ (all_made (map (made w) slice) (size old)).signals → mid.gates ≡ old.gates ++ (all_made (map (made w) slice) (size old)).gates →
    new.inputs ≡ mid.inputs → IfOk r (λ s. new.gates ≡ mid.gates ++ Or seen ∷ []) → IfOk r (λ s. s ≡ signal_of (size new)) → Ends old new (made w e (size old)) r
or_ends w e parts slice old mid new members seen r is same said extends signals gates inputs adds signal =
    ends old mid new (all_made (map (made w) slice) (size old)).gates (Or seen) (made w e (size old)) r
    (ap (λ x. made w x (size old)) is ∙ (made_or w parts (size old) ∙ rw (said, signals, same) refl)) extends.inputs gates inputs adds signal

pub iff_ends : (w : Cell → ℕ → Signal) (e f g : Expanded) (old one two new : Network) (a b : Signal) (r : Result Signal AllocError) → e ≡ v.Iff f g →
    Extends old one → a ≡ (made w f (size old)).signal → one.gates ≡ old.gates ++ (made w f (size old)).gates →
    Extends one two → b ≡ (made w g (size one)).signal → two.gates ≡ one.gates ++ (made w g (size one)).gates →
    new.inputs ≡ two.inputs → IfOk r (λ s. new.gates ≡ two.gates ++ Iff a b ∷ []) → IfOk r (λ s. s ≡ signal_of (size new)) → Ends old new (made w e (size old)) r
iff_ends w e f g old one two new a b r is first left made_left second right made_right inputs adds signal =
    let gs = (made w f (size old)).gates in
    let n : size one ≡ size old + length gs = size-append old one gs first.inputs made_left in
    let hs = (made w g (size old + length gs)).gates in
    let all : two.gates ≡ old.gates ++ (gs ++ hs) = made_right ∙ (rw (n, made_left) (append_assoc old.gates gs hs)) in
    ends old two new (gs ++ hs) (Iff a b) (made w e (size old)) r
    (ap (λ x. made w x (size old)) is ∙ (made_iff w f g (size old) ∙ rw (left, right, n) refl)) (second.inputs ∙ first.inputs) all inputs adds signal
