-- Lists with one item for each node: their items, and tests of all items.
use Rattle.std.proofs.Common.{◌≡◌, ◌<◌, ◌≤◌, ◌-◌, ℕ, zero, suc, Bool, true, false, [], ◌∷◌, ◌++◌, length, map, get_or, refl, ap, sym, ◌∙◌, arith, inl, inr}
use Rattle.std.proofs.{lemmas.Bool.and_parts, lemmas.List.Folds.list_all-append, Math.Nat.eq-or-lt_of_le}
use Rattle.std.proofs.lemmas.{List.get_or_append_left, List.get_or-append_right, List.map-append, Grind.common_steps}
use Rattle.std.specs.{Prelude.◌&&◌, List.list_all}
use Rattle.dd_formula.specs.LocalRule.{at_nodes}
use Rattle.dd_values.specs.lemmas.Booleans.{and_true}

pub length-at_nodes : {X : Type 0} (f : ℕ → X) (n : ℕ) → length (at_nodes f n) ≡ n
length-at_nodes f zero = refl
length-at_nodes f (suc n) = grind (arith, common_steps, length-at_nodes f n)

one_at : {X : Type 0} (x d : X) (k : ℕ) → k ≡ 0 → get_or (x ∷ []) k d ≡ x
one_at x d zero h = refl
one_at x d (suc k) h = absurd (omega arith)

pub get_or-at_nodes : {X : Type 0} (f : ℕ → X) (n k : ℕ) (d : X) → k < n → get_or (at_nodes f n) k d ≡ f k
get_or-at_nodes f zero k d h = absurd (omega arith)
get_or-at_nodes f (suc n) k d h =
    let most : k ≤ n = omega arith in
    elim (eq-or-lt_of_le most) [
      | inl same ↦
          get_or-append_right (at_nodes f n) (f n ∷ []) n k d (length-at_nodes f n) (omega arith)
          ∙ (one_at _ d (k - n) (omega arith) ∙ ap f (sym same))
      | inr below ↦ get_or_append_left (at_nodes f n) (f n ∷ []) d k (rw length-at_nodes below) ∙ get_or-at_nodes f n k d below
    ]

pub at_nodes-alike : {X : Type 0} (f h : ℕ → X) → ((a : ℕ) → f a ≡ h a) → (n : ℕ) → at_nodes f n ≡ at_nodes h n
at_nodes-alike f h same zero = refl
at_nodes-alike f h same (suc n) = rw (same n, at_nodes-alike f h same n)

pub map-at_nodes : {X Y : Type 0} (h : X → Y) (f : ℕ → X) (n : ℕ) → map h (at_nodes f n) ≡ at_nodes (λ a. h (f a)) n
map-at_nodes h f zero = refl
map-at_nodes h f (suc n) = map-append h (at_nodes f n) (f n ∷ []) ∙ ap (λ xs. xs ++ h (f n) ∷ []) (map-at_nodes h f n)

list_all-more : {X : Type 0} (p : X → Bool) (f : ℕ → X) (n : ℕ) → list_all p (at_nodes f (suc n)) ≡ (list_all p (at_nodes f n) && p (f n))
list_all-more p f n = list_all-append p (at_nodes f n) (f n ∷ []) ∙ ap (λ b. list_all p (at_nodes f n) && b) (and_true (p (f n)))

-- if all items pass a test, then each item does
pub all_at_nodes : {X : Type 0} (p : X → Bool) (f : ℕ → X) (n : ℕ) → list_all p (at_nodes f n) ≡ true → (a : ℕ) → a < n → p (f a) ≡ true
all_at_nodes p f zero h a below = absurd (omega arith)
all_at_nodes p f (suc n) h a below =
    let both = and_parts (list_all p (at_nodes f n)) (p (f n)) (sym (list_all-more p f n) ∙ h) in
    let most : a ≤ n = omega arith in
    elim (eq-or-lt_of_le most) [
      | inl same ↦ ap (λ k. p (f k)) same ∙ both.1
      | inr earlier ↦ all_at_nodes p f n both.0 a earlier
    ]

-- a node whose item fails the test
pub record FailsAt {X : Type 0} (p : X → Bool) (f : ℕ → X) (n : ℕ) : Type 0 where
  pub node : ℕ
  pub exists : node < n
  pub fails : p (f node) ≡ false

fails_in : {X : Type 0} (p : X → Bool) (f : ℕ → X) (n : ℕ) (b : Bool) → p (f n) ≡ b → (list_all p (at_nodes f n) ≡ false → FailsAt p f n) → (list_all p (at_nodes f n) && b) ≡ false → FailsAt p f (suc n)
fails_in p f n true here earlier h =
    let found = earlier (sym (and_true (list_all p (at_nodes f n))) ∙ h) in
    let exists : found.node < suc n = omega (arith, found.exists) in
    record { node = found.node; exists = exists; fails = found.fails }
fails_in p f n false here earlier h = record { node = n; exists = omega arith; fails = here }

pub some_fails : {X : Type 0} (p : X → Bool) (f : ℕ → X) (n : ℕ) → list_all p (at_nodes f n) ≡ false → FailsAt p f n
some_fails p f zero h = absurd (cc)
some_fails p f (suc n) h = fails_in p f n (p (f n)) refl (some_fails p f n) (sym (list_all-more p f n) ∙ h)
