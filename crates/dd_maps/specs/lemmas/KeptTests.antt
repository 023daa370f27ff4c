-- Whether all items that a filter keeps pass a test, and whether at least one of them does. Also whether all numbers below a bound pass a test that
-- only one of them can fail, and whether some number below the bound passes a test that only one of them can pass.
use Rattle.std.proofs.Common.{◌≡◌, ◌<◌, ℕ, Bool, true, false, List, [], ◌∷◌, length, get_or, refl, ap, sym, ◌∙◌, arith, eq-eqb, inl, inr}
use Rattle.std.proofs.lemmas.{Bool.cases_Bool, Bool.eqb-true, List.Folds.list_any_at}
use Rattle.std.proofs.lemmas.List.FromFn.{length-range_with_len, get_or-range_with_len}
use Rattle.std.specs.{Prelude.◌==◌, Prelude.◌&&◌, Prelude.◌||◌, Prelude.not, List.list_all, List.list_any, List.filter, List.range_with_len}
use Rattle.dd_expansion.specs.lemmas.ListTests.{all_pass, none_passes}
use Rattle.dd_formula.specs.lemmas.CompositionLaws.{range_fails}

module _ {X : Type 0} (p q : X → Bool) where
  all_more : (x : X) (xs : List X) → list_all p (filter q xs) ≡ list_all (λ y. not (q y) || p y) xs → (b : Bool) → q x ≡ b →
      list_all p (filter q (x ∷ xs)) ≡ list_all (λ y. not (q y) || p y) (x ∷ xs)
  all_more x xs rest true h = rw h (ap (λ b. p x && b) rest)
  all_more x xs rest false h = rw h rest

  pub all_kept : (xs : List X) → list_all p (filter q xs) ≡ list_all (λ x. not (q x) || p x) xs
  all_kept [] = refl
  all_kept (x ∷ xs) = all_more x xs (all_kept xs) (q x) refl

  any_more : (x : X) (xs : List X) → list_any p (filter q xs) ≡ list_any (λ y. q y && p y) xs → (b : Bool) → q x ≡ b →
      list_any p (filter q (x ∷ xs)) ≡ list_any (λ y. q y && p y) (x ∷ xs)
  any_more x xs rest true h = rw h (ap (λ b. p x || b) rest)
  any_more x xs rest false h = rw h rest

  pub any_kept : (xs : List X) → list_any p (filter q xs) ≡ list_any (λ x. q x && p x) xs
  any_kept [] = refl
  any_kept (x ∷ xs) = any_more x xs (any_kept xs) (q x) refl

ask_one : (q : ℕ → Bool) (b a : ℕ) → q b ≡ true → (not (b == a) || q a) ≡ true
ask_one q b a h = elim (cases_Bool (b == a)) [
  | inl same ↦ rw (same, ← eqb-true b a same) h
  | inr other ↦ rw other refl
]

-- let b be below n: b passes the test q exactly when each number below n passes q or isn't b
pub all_but_one : (q : ℕ → Bool) (b n : ℕ) → b < n → list_all (λ a. not (b == a) || q a) (range_with_len 0 n) ≡ q b
all_but_one q b n below = by (q b) refl
  where
    by : (x : Bool) → q b ≡ x → list_all (λ a. not (b == a) || q a) (range_with_len 0 n) ≡ q b
    by true h = all_pass (λ a. not (b == a) || q a) (λ a. ask_one q b a h) (range_with_len 0 n) ∙ sym h
    by false h = range_fails (λ a. not (b == a) || q a) n b below (rw (eq-eqb b b refl) h) ∙ sym h

ask_none : (q : ℕ → Bool) (t a : ℕ) → q t ≡ false → (q a && (t == a)) ≡ false
ask_none q t a h = elim (cases_Bool (t == a)) [
  | inl same ↦ rw (← eqb-true t a same, h) refl
  | inr other ↦ rw other (and_false (q a))
]
  where
    and_false : (b : Bool) → (b && false) ≡ false
    and_false true = refl
    and_false false = refl

-- let t be below n: t passes the test q exactly when some number below n passes q and is t
pub some_one : (q : ℕ → Bool) (t n : ℕ) → t < n → list_any (λ a. q a && (t == a)) (range_with_len 0 n) ≡ q t
some_one q t n below = by (q t) refl
  where
    by : (x : Bool) → q t ≡ x → list_any (λ a. q a && (t == a)) (range_with_len 0 n) ≡ q t
    by true h =
        let at : get_or (range_with_len 0 n) t 0 ≡ t = get_or-range_with_len 0 n t 0 below ∙ (omega arith) in
        let within : t < length (range_with_len 0 n) = omega (arith, length-range_with_len 0 n) in
        list_any_at (λ a. q a && (t == a)) (range_with_len 0 n) t 0 within (rw (at, h) (eq-eqb t t refl)) ∙ sym h
    by false h = none_passes (λ a. q a && (t == a)) (λ a. ask_none q t a h) (range_with_len 0 n) ∙ sym h
