-- The gates that tell two values apart: what they say, and that they are over earlier variables.
use Rattle.std.proofs.Common.{◌≡◌, ℕ, zero, suc, ◌+◌, ◌<◌, ◌≤◌, Bool, true, false, List, [], ◌∷◌, ◌++◌, map, length, refl, ap, sym, subst, ◌∙◌, arith, inl, inr, Some, length-append, eq-eqb}
use Rattle.std.proofs.{Math.Nat.eq-or-lt_of_le, lemmas.Bool.and_parts, lemmas.Bool.Decides.nat_tests, lemmas.List.Elements.All-weaker}
use Rattle.std.specs.{Prelude.not, Prelude.◌&&◌, Prelude.◌||◌, Prelude.◌==◌, Prelude.slice_get, Bool.beq}
use Rattle.std.specs.List.{All, list_any, range_with_len}
use Rattle.dd_lattice.specs.declared.position.Cell.{Cell}
use Rattle.dd_pattern.specs.Reading.{Look, HasSymbolsBelow}
use Rattle.dd_formula.specs.{Automata.counted, Automata.value, declared.automaton.Automaton.Automaton}
use Rattle.dd_circuit.specs.declared.gates.{Signal.Signal, Gate.Gate, Gate.TheVariants.Or}
use Rattle.dd_circuit.specs.Circuits.{IsSignal, AreGates, signal_value, agrees, opposite}
use Rattle.dd_circuit.specs.lemmas.{ValueLaws.agrees-append, GateLists.AreGates-append, GateLists.AreGates-snoc}
use Rattle.dd_compile.specs.{Wiring.Wiring, ValueGates.fresh, ValueGates.value_made, ValueSignals.TellsCells, Valued.IsMadeValue}
use Rattle.dd_compile.specs.lemmas.{MadeSays.last_gate, MadeSays.opposite_value, ChoiceLaws.fresh_in_range}
use Rattle.dd_problem.specs.Differing.{apart, differ_made}
use Rattle.dd_values.specs.lemmas.Booleans.{same_from_beq}

-- at each index, whether the first list has true and the second has false
abbrev each_apart : List Bool → List Bool → List Bool
each_apart [] bs = []
each_apart (a ∷ us) [] = []
each_apart (a ∷ us) (b ∷ bs) = (a && not b) ∷ each_apart us bs

and_one : (a b : Bool) → (a && (b && true)) ≡ (a && b)
and_one true true = refl
and_one true false = refl
and_one false b = refl

apart_says : (set : ℕ → Bool) (n : ℕ) (xs ys : List Signal) → agrees set n (apart xs ys) ≡ true →
    map (signal_value set) (fresh n (length (apart xs ys))) ≡ each_apart (map (signal_value set) xs) (map (signal_value set) ys)
apart_says set n [] ys ok = refl
apart_says set n (x ∷ xs) [] ok = refl
apart_says set n (x ∷ xs) (y ∷ ys) ok =
    let b = signal_value set x && (signal_value set (opposite y) && true) in
    let both = and_parts (beq (set (suc n)) b) (agrees set (suc n) (apart xs ys)) ok in
    let here : set (suc n) ≡ (signal_value set x && not (signal_value set y)) =
    same_from_beq (set (suc n)) b both.0 ∙ (and_one (signal_value set x) (signal_value set (opposite y)) ∙ ap (λ c. signal_value set x && c) (opposite_value set y)) in
    let rest = apart_says set (suc n) xs ys both.1 in
    λ i. here i ∷ rest i

any_as_map : (set : ℕ → Bool) (ss : List Signal) → list_any (signal_value set) ss ≡ list_any (λ b. b) (map (signal_value set) ss)
any_as_map set [] = refl
any_as_map set (s ∷ ss) = ap (λ b. signal_value set s || b) (any_as_map set ss)

-- for each of k symbols from j on, whether it is the value v
abbrev is_value : ℕ → ℕ → ℕ → List Bool
is_value v j k = map (λ t. v == t) (range_with_len j k)

signals_say : (set : ℕ → Bool) (ss : List Signal) (v j k : ℕ) → length ss ≡ k → ((t : ℕ) (s : Signal) → slice_get ss t ≡ Some s → signal_value set s ≡ (v == (j + t))) →
    map (signal_value set) ss ≡ is_value v j k
signals_say set [] v j zero long says = refl
signals_say set [] v j (suc k) long says = absurd (omega arith)
signals_say set (s ∷ ss) v j zero long says = absurd (omega arith)
signals_say set (s ∷ ss) v j (suc k) long says =
    let none : j + 0 ≡ j = omega arith in
    let here : signal_value set s ≡ (v == j) = says 0 s refl ∙ ap (λ t. v == t) none in
    let rest = signals_say set ss v (j + 1) k (omega arith) (λ t x is. says (suc t) x is ∙ ap (λ m. v == m) (one_on j t)) in
    λ i. here i ∷ rest i
  where
    one_on : (a t : ℕ) → a + suc t ≡ a + 1 + t
    one_on a t = omega arith

none_later : (u v j k : ℕ) → u < j → list_any (λ b. b) (each_apart (is_value u j k) (is_value v j k)) ≡ false
none_later u v j zero h = refl
none_later u v j (suc k) h =
    let other : (u == j) ≡ false = grind (arith, nat_tests) in
    rw other (none_later u v (j + 1) k (omega arith))

swapped : (u v : ℕ) → (v == u) ≡ (u == v)
swapped u v = grind (arith, nat_tests)

or_none : (a b : Bool) → b ≡ false → ((true && a) || b) ≡ a
or_none true b h = refl
or_none false b h = h

-- if the first of two values is one of the symbols, `each_apart` is true at some symbol exactly when the values are different
apart_at : (u v j k : ℕ) → j ≤ u → u < j + k → list_any (λ b. b) (each_apart (is_value u j k) (is_value v j k)) ≡ not (u == v)
apart_at u v j zero low high = absurd (omega arith)
apart_at u v j (suc k) low high =
    let rest = list_any (λ b. b) (each_apart (is_value u (j + 1) k) (is_value v (j + 1) k)) in
    elim (eq-or-lt_of_le low) [
      | inl same ↦
          let here : (u == j) ≡ true = eq-eqb u j (sym same) in
          ap (λ c. (c && not (v == j)) || rest) here
          ∙ (or_none (not (v == j)) rest (none_later u v (j + 1) k (omega (arith, same))) ∙ (ap (λ t. not (v == t)) same ∙ ap not (swapped u v)))
      | inr later ↦
          let other : (u == j) ≡ false = grind (arith, nat_tests) in
          ap (λ c. (c && not (v == j)) || rest) other ∙ apart_at u v (j + 1) k (omega arith) (omega arith)
    ]

module _ (k : ℕ) (f g : Automaton) (w : Wiring) (at : Cell) (n : ℕ) where
  abbrev left : List Gate
  left = (value_made k f w at n).gates

  abbrev second : ℕ
  second = n + length left

  abbrev right : List Gate
  right = (value_made k g w at second).gates

  abbrev third : ℕ
  third = second + length right

  abbrev each : List Gate
  each = apart (value_made k f w at n).signals (value_made k g w at second).signals

  here_third : n + length (left ++ right) ≡ third
  here_third = let l = length-append left right in omega (arith, l)

  module _ (first : IsMadeValue n k f w at (value_made k f w at n)) (next : IsMadeValue second k g w at (value_made k g w at second)) where
    pub differ_says : (set : ℕ → Bool) (look : Look) → HasSymbolsBelow k look → TellsCells set w ((counted f).reads at.node) at look → TellsCells set w ((counted g).reads at.node) at look →
        value f look at < k → agrees set n (differ_made k f g w at n).gates ≡ true → signal_value set (differ_made k f g w at n).signal ≡ not (value f look at == value g look at)
    differ_says set look below tell tell' small ok =
        let u = value f look at in
        let v = value g look at in
        let last = last_gate set n ((left ++ right) ++ each) (Or (fresh third (length each))) ok in
        let two = and_parts (agrees set n (left ++ right)) (agrees set (n + length (left ++ right)) each) (sym (agrees-append set n (left ++ right) each) ∙ last.0) in
        let one = and_parts (agrees set n left) (agrees set second right) (sym (agrees-append set n left right) ∙ two.0) in
        let each_ok : agrees set third each ≡ true = ap (λ m. agrees set m each) (sym here_third) ∙ two.1 in
        let us = signals_say set (value_made k f w at n).signals u 0 k first.one_each (λ t s is. first.says set look one.0 below tell t s is ∙ ap (λ m. u == m) (from_zero t)) in
        let vs = signals_say set (value_made k g w at second).signals v 0 k next.one_each (λ t s is. next.says set look one.1 below tell' t s is ∙ ap (λ m. v == m) (from_zero t)) in
        last.1
        ∙ (any_as_map set (fresh third (length each))
        ∙ (ap (list_any (λ b. b)) (apart_says set third (value_made k f w at n).signals (value_made k g w at second).signals each_ok)
        ∙ (ap (λ bs. list_any (λ b. b) (each_apart bs (map (signal_value set) (value_made k g w at second).signals))) us
        ∙ (ap (λ bs. list_any (λ b. b) (each_apart (is_value u 0 k) bs)) vs
        ∙ apart_at u v 0 k (omega arith) (omega (arith, small))))))
      where
        from_zero : (t : ℕ) → t ≡ 0 + t
        from_zero t = omega arith

    -- the gates of both values, and those that tell them apart, are over earlier variables
    pub differ_fits : AreGates n (differ_made k f g w at n).gates
    differ_fits =
        let so_far = AreGates-append n left right first.gates next.gates in
        let up : (m : ℕ) → m ≤ third → (ss : List Signal) → All (IsSignal m) ss → All (IsSignal third) ss =
        λ m le ss ok. All-weaker (IsSignal m) (IsSignal third) (λ s h. (h.0, (let top = h.1 in omega (arith, top, le)))) ss ok in
        let apart_ok : AreGates third each =
        apart_fits third (value_made k f w at n).signals (value_made k g w at second).signals
        (up second (omega arith) (value_made k f w at n).signals first.in_range) (up third (omega arith) (value_made k g w at second).signals next.in_range) in
        let all = AreGates-append n (left ++ right) each so_far (subst (λ m. AreGates m each) (sym here_third) apart_ok) in
        let l = length-append (left ++ right) each in
        let last = fresh_in_range third (length each) (n + length ((left ++ right) ++ each)) (let e = here_third in omega (arith, l, e)) in
        AreGates-snoc n ((left ++ right) ++ each) (Or (fresh third (length each))) all last
      where
        two_in : (m : ℕ) (a b : Signal) → IsSignal m a → IsSignal m b → All (IsSignal m) (a ∷ b ∷ [])
        two_in m a b p q zero d h = p
        two_in m a b p q (suc zero) d h = q
        two_in m a b p q (suc (suc i)) d h = absurd (omega arith)

        later : (m : ℕ) (s : Signal) (ss : List Signal) → All (IsSignal m) (s ∷ ss) → All (IsSignal (suc m)) ss
        later m s ss ok i d h = let here = ok (suc i) d (omega arith) in (here.0, (let top = here.1 in omega (arith, top)))

        apart_fits : (m : ℕ) (xs ys : List Signal) → All (IsSignal m) xs → All (IsSignal m) ys → AreGates m (apart xs ys)
        apart_fits m [] ys p q = tt
        apart_fits m (x ∷ xs) [] p q = tt
        apart_fits m (x ∷ xs) (y ∷ ys) p q =
            (two_in m x (opposite y) (p 0 x (omega arith)) (q 0 y (omega arith)), apart_fits (suc m) xs ys (later m x xs p) (later m y ys q))
