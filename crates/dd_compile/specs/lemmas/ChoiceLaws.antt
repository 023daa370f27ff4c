-- What is said by the gates that choose one of several symbols.
use Rattle.std.proofs.Common.{◌≡◌, ◌≤◌, ℕ, zero, suc, ◌+◌, Bool, true, false, List, [], ◌∷◌, ◌++◌, Some, map, length, slice_get, refl, ap, sym, ◌∙◌, arith}
use Rattle.std.proofs.lemmas.{Bool.and_parts, List.map-append, List.Folds.list_all-append}
use Rattle.std.specs.Prelude.{◌&&◌, ◌||◌, ◌==◌, not, if◌then◌else◌}
use Rattle.std.specs.{List.list_all, List.list_any, List.range_with_len, List.All, Bool.beq}
use Rattle.dd_lattice.specs.declared.position.Cell.{Cell}
use Rattle.dd_pattern.specs.Reading.{Look}
use Rattle.dd_formula.specs.{LocalRule.LocalRule, LocalRule.is_true, Automata.first_case}
use Rattle.dd_circuit.specs.declared.gates.{Signal.Signal, Gate.TheVariants.Or}
use Rattle.dd_circuit.specs.Circuits.{IsSignal, signal_of, opposite, signal_value, agrees}
use Rattle.dd_compile.specs.ValueGates.{fresh, choices, giving, given_symbols}
use Rattle.dd_compile.specs.lemmas.MadeSays.{opposite_value}
use Rattle.dd_values.specs.lemmas.Booleans.{same_from_beq}

-- the first symbol whose truth value is true, or the last symbol if no truth value is true; there is one more symbol than truth values
abbrev pub pick : List ℕ → List Bool → ℕ
pick [] bs = 0
pick (x ∷ xs) [] = x
pick (x ∷ xs) (b ∷ bs) = if b then x else pick xs bs

pub picked : (cases : List (LocalRule × ℕ)) (otherwise : ℕ) (look : Look) (at : Cell) →
    pick (given_symbols cases otherwise) (map (λ case. is_true case.0 at look) cases) ≡ first_case cases otherwise look at
picked [] otherwise look at = refl
picked (case ∷ cases) otherwise look at = ap (λ n. if is_true case.0 at look then case.1 else n) (picked cases otherwise look at)

any_given : (set : ℕ → Bool) (t : Bool) (f : Signal) (fs : List Signal) →
    list_any (signal_value set) (if t then f ∷ fs else fs) ≡ ((t && signal_value set f) || list_any (signal_value set) fs)
any_given set true f fs = refl
any_given set false f fs = refl

last_one : (none t : Bool) → ((t && none) || false) ≡ (none && t)
last_one true true = refl
last_one true false = refl
last_one false true = refl
last_one false false = refl

one_more : (t b none p : Bool) → ((t && (b && none)) || ((none && not b) && p)) ≡ (none && (if b then t else p))
one_more true true true p = refl
one_more true true false p = refl
one_more true false true p = refl
one_more true false false p = refl
one_more false true true p = refl
one_more false true false p = refl
one_more false false true p = refl
one_more false false false p = refl

equal_where : (b : Bool) (x p s : ℕ) → (if b then x == s else p == s) ≡ ((if b then x else p) == s)
equal_where true x p s = refl
equal_where false x p s = refl

abbrev none_of : (ℕ → Bool) → List Signal → Bool
none_of set before = list_all (signal_value set) (map opposite before)

none_more : (set : ℕ → Bool) (before : List Signal) (l : Signal) → none_of set (before ++ l ∷ []) ≡ (none_of set before && not (signal_value set l))
none_more set before l =
    ap (list_all (signal_value set)) (map-append opposite before (l ∷ []))
    ∙ (list_all-append (signal_value set) (map opposite before) (opposite l ∷ [])
    ∙ ap (λ b. none_of set before && b) (and_true (signal_value set (opposite l)) ∙ opposite_value set l))
  where
    and_true : (b : Bool) → (b && true) ≡ b
    and_true true = refl
    and_true false = refl

-- Some choice that gives the symbol s is true exactly when no signal in `before` is true and s is picked.
pub chosen_says : (set : ℕ → Bool) (n : ℕ) (before ls : List Signal) (xs : List ℕ) (s : ℕ) → length xs ≡ length ls + 1 → agrees set n (choices before ls) ≡ true →
    list_any (signal_value set) (giving s xs (fresh n (length (choices before ls)))) ≡ (none_of set before && (pick xs (map (signal_value set) ls) == s))
chosen_says set n before [] [] s long ok = absurd (omega arith)
chosen_says set n before [] (x ∷ y ∷ ys) s long ok = absurd (omega arith)
chosen_says set n before [] (x ∷ []) s long ok =
    let here = same_from_beq (set (suc n)) (none_of set before) (and_parts (beq (set (suc n)) (none_of set before)) true ok).0 in
    any_given set (x == s) (signal_of (suc n)) [] ∙ (ap (λ b. ((x == s) && b) || false) here ∙ last_one (none_of set before) (x == s))
chosen_says set n before (l ∷ ls) [] s long ok = absurd (omega arith)
chosen_says set n before (l ∷ ls) (x ∷ xs) s long ok =
    let more = before ++ l ∷ [] in
    let b = signal_value set l in
    let none = none_of set before in
    let both = and_parts (beq (set (suc n)) (b && none)) (agrees set (suc n) (choices more ls)) ok in
    let here : set (suc n) ≡ (b && none) = same_from_beq (set (suc n)) (b && none) both.0 in
    let p = pick xs (map (signal_value set) ls) in
    let rest = chosen_says set (suc n) more ls xs s (omega (arith, long)) both.1 ∙ ap (λ c. c && (p == s)) (none_more set before l) in
    any_given set (x == s) (signal_of (suc n)) (giving s xs (fresh (suc n) (length (choices more ls))))
    ∙ (ap (λ c. ((x == s) && c) || list_any (signal_value set) (giving s xs (fresh (suc n) (length (choices more ls))))) here
    ∙ (ap (λ c. ((x == s) && (b && none)) || c) rest
    ∙ (one_more (x == s) b none (p == s) ∙ ap (λ c. none && c) (equal_where b x p s))))

-- the signal of each symbol's gate says whether some member of the gate is true
pub gates_say : (set : ℕ → Bool) (m j k : ℕ) (among : ℕ → List Signal) (i : ℕ) (x : Signal) → agrees set m (map (λ s. Or (among s)) (range_with_len j k)) ≡ true →
    slice_get (fresh m k) i ≡ Some x → signal_value set x ≡ list_any (signal_value set) (among (j + i))
gates_say set m j zero among i x ok is = absurd (cc)
gates_say set m j (suc k) among zero x ok is =
    let here = same_from_beq (set (suc m)) (list_any (signal_value set) (among j)) (and_parts (beq (set (suc m)) (list_any (signal_value set) (among j))) (agrees set (suc m) (map (λ s. Or (among s)) (range_with_len (j + 1) k))) ok).0 in
    let same : signal_of (suc m) ≡ x = cc in
    let at : j ≡ j + 0 = omega arith in
    ap (signal_value set) (sym same) ∙ (here ∙ ap (λ s. list_any (signal_value set) (among s)) at)
gates_say set m j (suc k) among (suc i) x ok is =
    let later = (and_parts (beq (set (suc m)) (list_any (signal_value set) (among j))) (agrees set (suc m) (map (λ s. Or (among s)) (range_with_len (j + 1) k))) ok).1 in
    let at : (j + 1) + i ≡ j + suc i = omega arith in
    gates_say set (suc m) (j + 1) k among i x later is ∙ ap (λ s. list_any (signal_value set) (among s)) at

-- how many signals of new variables there are
pub fresh_length : (n k : ℕ) → length (fresh n k) ≡ k
fresh_length n zero = refl
fresh_length n (suc k) = ap suc (fresh_length (suc n) k)

-- if n + k ≤ m, the signals of the k variables that follow the first n have variables among 1..m
pub fresh_in_range : (n k m : ℕ) → n + k ≤ m → All (IsSignal m) (fresh n k)
fresh_in_range n zero m h i d within = absurd (omega arith)
fresh_in_range n (suc k) m h zero d within = (omega arith, omega (arith, h))
fresh_in_range n (suc k) m h (suc i) d within = fresh_in_range (suc n) k m (omega (arith, h)) i d (omega arith)

pub choices_length : (before ls : List Signal) → length (choices before ls) ≡ length ls + 1
choices_length before [] = refl
choices_length before (l ∷ ls) = let rest = choices_length (before ++ l ∷ []) ls in omega (arith, rest)
