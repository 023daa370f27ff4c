-- The state of the loops that make the gates of the choices and of the symbols, for the value of an automaton that is given by cases.
use Rattle.std.proofs.Common.{◌≡◌, ◌<◌, ◌≤◌, ℕ, zero, suc, ◌+◌, Bool, true, false, List, [], ◌∷◌, ◌++◌, map, length, take, drop, get_or, refl, ap, sym, ◌∙◌, subst, arith, append_assoc, drop-cons, add-one}
use Rattle.std.proofs.lemmas.List.{map-append, take_more, drop_all}
use Rattle.std.proofs.lemmas.List.Elements.{All-push, All-weaker}
use Rattle.std.specs.{Prelude.◌==◌, Prelude.◌-◌, Prelude.if◌then◌else◌, List.range_with_len, List.All}
use Rattle.dd_values.specs.Bounds.{most_variables}
use Rattle.dd_circuit.specs.declared.gates.{Signal.Signal, Gate.Gate}
use Rattle.dd_circuit.specs.declared.gates.Gate.TheVariants.{And, Or}
use Rattle.dd_circuit.specs.Circuits.{Network, IsSignal, size, signal_of, opposite}
use Rattle.dd_compile.specs.{Compiling.Extends, ValueGates.fresh, ValueGates.choices, ValueGates.giving, ValueGates.symbol_gates}
use Rattle.dd_compile.specs.lemmas.{Progress.size-append, Progress.Extends-trans, ChoiceLaws.choices_length}

pub itself : (a : Network) → Extends a a
itself a = record { inputs = refl; added = []; gates = sym (append-nil a.gates) }
  where
    append-nil : (gs : List Gate) → gs ++ [] ≡ gs
    append-nil [] = refl
    append-nil (g ∷ gs) = ap (λ xs. g ∷ xs) (append-nil gs)

pub next_is : {X : Type 0} (xs : List X) (i : ℕ) (x : X) → i < length xs → x ≡ get_or xs i x → drop i xs ≡ x ∷ drop (i + 1) xs
next_is xs i x below is = drop-cons xs i x below ∙ (ap (λ y. y ∷ drop (suc i) xs) (sym is) ∙ ap (λ n. x ∷ drop n xs) (sym (add-one i)))

pub taken_is : {X : Type 0} (xs : List X) (i : ℕ) (x : X) → i < length xs → x ≡ get_or xs i x → take (i + 1) xs ≡ take i xs ++ x ∷ []
taken_is xs i x below is = take_more xs i x below ∙ ap (λ y. take i xs ++ y ∷ []) (sym is)

one_gate : (now new : Network) (g : Gate) → new.inputs ≡ now.inputs → new.gates ≡ now.gates ++ g ∷ [] → (Extends now new) × (size new ≡ suc (size now))
one_gate now new g inputs gates =
    let n = size-append now new (g ∷ []) inputs gates in
    (record { inputs = inputs; added = g ∷ []; gates = gates }, omega (arith, n))

-- the state after the choices of the first i rules
pub record Choosing (rules : List Signal) (i : ℕ) (start now : Network) (chosen before : List Signal) : Type 0 where
  pub extends : Extends start now
  pub gates_left : start.gates ++ choices [] rules ≡ now.gates ++ choices (take i rules) (drop i rules)
  pub signals_left : fresh (size start) (length (choices [] rules)) ≡ chosen ++ fresh (size now) (length (choices (take i rules) (drop i rules)))
  pub count : size now ≡ size start + i
  pub before_is : before ≡ map opposite (take i rules)
  pub in_range : All (IsSignal (size start)) before

pub choosing_step : (rules : List Signal) (i : ℕ) (start now new : Network) (chosen before members more after : List Signal) (l s : Signal) → Choosing rules i start now chosen before →
    All (IsSignal (size start)) rules → i < length rules → l ≡ get_or rules i l → members ≡ l ∷ before → new.inputs ≡ now.inputs → new.gates ≡ now.gates ++ And members ∷ [] → s ≡ signal_of (size new) →
    more ≡ chosen ++ s ∷ [] → after ≡ before ++ opposite l ∷ [] → Choosing rules (i + 1) start new more after
choosing_step rules i start now new chosen before members more after l s p ok below is are inputs gates signal pushed grown =
    let one = one_gate now new (And members) inputs gates in
    let here : choices (take i rules) (drop i rules) ≡ And members ∷ choices (take (i + 1) rules) (drop (i + 1) rules) =
    ap (choices (take i rules)) (next_is rules i l below is)
    ∙ (ap (λ xs. And (l ∷ xs) ∷ choices (take i rules ++ l ∷ []) (drop (i + 1) rules)) (sym p.before_is)
    ∙ (ap (λ xs. And xs ∷ choices (take i rules ++ l ∷ []) (drop (i + 1) rules)) (sym are)
    ∙ ap (λ xs. And members ∷ choices xs (drop (i + 1) rules)) (sym (taken_is rules i l below is)))) in
    let rest = choices (take (i + 1) rules) (drop (i + 1) rules) in
    record {
      extends = Extends-trans start now new p.extends one.0;
      gates_left = p.gates_left ∙ (ap (λ gs. now.gates ++ gs) here ∙ (sym (append_assoc now.gates (And members ∷ []) rest) ∙ ap (λ gs. gs ++ rest) (sym gates)));
      signals_left =
          p.signals_left
          ∙ (ap (λ gs. chosen ++ fresh (size now) (length gs)) here
          ∙ (ap (λ n. chosen ++ (signal_of n ∷ fresh n (length rest))) (sym one.1)
          ∙ (ap (λ x. chosen ++ (x ∷ fresh (size new) (length rest))) (sym signal)
          ∙ (sym (append_assoc chosen (s ∷ []) (fresh (size new) (length rest))) ∙ ap (λ xs. xs ++ fresh (size new) (length rest)) (sym pushed)))));
      count = omega (arith, one.1, p.count);
      before_is =
          grown
          ∙ (ap (λ xs. xs ++ opposite l ∷ []) p.before_is
          ∙ (sym (map-append opposite (take i rules) (l ∷ [])) ∙ ap (map opposite) (sym (taken_is rules i l below is))));
      in_range = subst (All (IsSignal (size start))) (sym grown) (All-push (IsSignal (size start)) before (opposite l) p.in_range (subst (λ x. IsSignal (size start) (opposite x)) (sym is) (ok i l below)));
    }

pub choosing_end : (rules : List Signal) (i : ℕ) (start now new : Network) (chosen before members all : List Signal) (s : Signal) → Choosing rules i start now chosen before → length rules ≤ i →
    members ≡ before → new.inputs ≡ now.inputs → new.gates ≡ now.gates ++ And members ∷ [] → s ≡ signal_of (size new) → all ≡ chosen ++ s ∷ [] →
    (new.gates ≡ start.gates ++ choices [] rules) × (all ≡ fresh (size start) (length (choices [] rules)))
choosing_end rules i start now new chosen before members all s p past are inputs gates signal pushed =
    let one = one_gate now new (And members) inputs gates in
    let here : choices (take i rules) (drop i rules) ≡ And members ∷ [] =
    ap (choices (take i rules)) (drop_all i rules past) ∙ ap (λ xs. And xs ∷ []) (sym (are ∙ p.before_is)) in (
      gates ∙ sym (p.gates_left ∙ ap (λ gs. now.gates ++ gs) here),
      pushed
          ∙ sym (p.signals_left
          ∙ (ap (λ gs. chosen ++ fresh (size now) (length gs)) here
          ∙ (ap (λ n. chosen ++ signal_of n ∷ []) (sym one.1) ∙ ap (λ x. chosen ++ x ∷ []) (sym signal)))),
    )

pub choosing_few : (rules : List Signal) (i : ℕ) (start now : Network) (chosen before : List Signal) → Choosing rules i start now chosen before → i ≤ length rules →
    size start + length (choices [] rules) ≤ most_variables → size now < most_variables
choosing_few rules i start now chosen before p within few = omega (arith, p.count, choices_length [] rules, few)

pub still_in_range : (n m : ℕ) (xs : List Signal) → n ≤ m → All (IsSignal n) xs → All (IsSignal m) xs
still_in_range n m xs more ok = All-weaker (IsSignal n) (IsSignal m) (λ x h. (h.0, (let g = h.1 in omega (arith, g, more)))) xs ok

pub with_first : (n : ℕ) (l : Signal) (xs : List Signal) → IsSignal n l → All (IsSignal n) xs → All (IsSignal n) (l ∷ xs)
with_first n l xs here rest zero d h = here
with_first n l xs here rest (suc k) d h = rest k d (omega arith)

-- one step through the choices: if choice i gives the symbol, its signal is added
pub members_step : (s : ℕ) (xs : List ℕ) (fs members more : List Signal) (i : ℕ) (x : ℕ) (f : Signal) (b : Bool) → giving s xs fs ≡ members ++ giving s (drop i xs) (drop i fs) → i < length xs → i < length fs →
    x ≡ get_or xs i x → f ≡ get_or fs i f → (x == s) ≡ b → more ≡ (if b then members ++ f ∷ [] else members) → giving s xs fs ≡ more ++ giving s (drop (i + 1) xs) (drop (i + 1) fs)
members_step s xs fs members more i x f b so_far below below' is is' test grown =
    let rest = giving s (drop (i + 1) xs) (drop (i + 1) fs) in
    so_far
    ∙ (ap (λ ys. members ++ giving s ys (drop i fs)) (next_is xs i x below is)
    ∙ (ap (λ gs. members ++ giving s (x ∷ drop (i + 1) xs) gs) (next_is fs i f below' is')
    ∙ (ap (λ t. members ++ (if t then f ∷ rest else rest)) test ∙ (by b ∙ ap (λ ys. ys ++ rest) (sym grown)))))
  where
    by : (t : Bool) → members ++ (if t then f ∷ giving s (drop (i + 1) xs) (drop (i + 1) fs) else giving s (drop (i + 1) xs) (drop (i + 1) fs)) ≡
        (if t then members ++ f ∷ [] else members) ++ giving s (drop (i + 1) xs) (drop (i + 1) fs)
    by true = sym (append_assoc members (f ∷ []) (giving s (drop (i + 1) xs) (drop (i + 1) fs)))
    by false = refl

in_either : (n : ℕ) (f : Signal) (gs : List Signal) → IsSignal n f → All (IsSignal n) gs → (t : Bool) → All (IsSignal n) (if t then f ∷ gs else gs)
in_either n f gs here rest true = with_first n f gs here rest
in_either n f gs here rest false = rest

pub giving_in_range : (n s : ℕ) (xs : List ℕ) (fs : List Signal) → All (IsSignal n) fs → All (IsSignal n) (giving s xs fs)
giving_in_range n s [] fs ok = λ k d h. absurd (omega arith)
giving_in_range n s (x ∷ xs) [] ok = λ k d h. absurd (omega arith)
giving_in_range n s (x ∷ xs) (f ∷ fs) ok =
    in_either n f (giving s xs fs) (ok zero f (omega arith)) (giving_in_range n s xs fs (λ k d h. ok (suc k) d (omega arith))) (x == s)

-- the state after the gates of the first i symbols
pub record Giving (k : ℕ) (xs : List ℕ) (fs : List Signal) (i : ℕ) (start now : Network) (signals : List Signal) : Type 0 where
  pub extends : Extends start now
  pub gates_left : start.gates ++ symbol_gates k xs fs ≡ now.gates ++ map (λ s. Or (giving s xs fs)) (range_with_len i (k - i))
  pub signals_left : fresh (size start) k ≡ signals ++ fresh (size now) (k - i)
  pub count : size now ≡ size start + i

pub giving_step : (k : ℕ) (xs : List ℕ) (fs : List Signal) (i : ℕ) (start now new : Network) (signals members more : List Signal) (s : Signal) → Giving k xs fs i start now signals → i < k →
    members ≡ giving i xs fs → new.inputs ≡ now.inputs → new.gates ≡ now.gates ++ Or members ∷ [] → s ≡ signal_of (size new) → more ≡ signals ++ s ∷ [] → Giving k xs fs (i + 1) start new more
giving_step k xs fs i start now new signals members more s p below are inputs gates signal pushed =
    let one = one_gate now new (Or members) inputs gates in
    let left : k - i ≡ suc (k - (i + 1)) = omega arith in
    let rest = map (λ s. Or (giving s xs fs)) (range_with_len (i + 1) (k - (i + 1))) in
    let here : map (λ s. Or (giving s xs fs)) (range_with_len i (k - i)) ≡ Or members ∷ rest =
    ap (λ n. map (λ s. Or (giving s xs fs)) (range_with_len i n)) left ∙ ap (λ ys. Or ys ∷ rest) (sym are) in
    record {
      extends = Extends-trans start now new p.extends one.0;
      gates_left = p.gates_left ∙ (ap (λ gs. now.gates ++ gs) here ∙ (sym (append_assoc now.gates (Or members ∷ []) rest) ∙ ap (λ gs. gs ++ rest) (sym gates)));
      signals_left =
          p.signals_left
          ∙ (ap (λ n. signals ++ fresh (size now) n) left
          ∙ (ap (λ n. signals ++ (signal_of n ∷ fresh n (k - (i + 1)))) (sym one.1)
          ∙ (ap (λ x. signals ++ (x ∷ fresh (size new) (k - (i + 1)))) (sym signal)
          ∙ (sym (append_assoc signals (s ∷ []) (fresh (size new) (k - (i + 1)))) ∙ ap (λ ys. ys ++ fresh (size new) (k - (i + 1))) (sym pushed)))));
      count = omega (arith, one.1, p.count);
    }
