-- The clauses of `one_hot` say that exactly one of the variables is true.
use Rattle.std.proofs.Common.{◌≡◌, ℕ, zero, suc, ◌+◌, ◌<◌, ◌≤◌, Bool, true, false, List, [], ◌∷◌, map, length, refl, sym, ◌∙◌, arith, get_or, inl, inr}
use Rattle.std.proofs.lemmas.{Bool.and_parts, Bool.cases_lt, List.Folds.list_all-append}
use Rattle.std.specs.Prelude.{not, cond, ◌&&◌, ◌||◌, ◌==◌, ◌⊎◌}
use Rattle.std.specs.List.{list_all, list_any, range_with_len, position_or_len}
use Rattle.dd_clause.specs.Clauses.{is_true_under, is_clause_true}
use Rattle.dd_cnf.specs.{Encoding.literal, Models.is_satisfied}
use Rattle.dd_problem.specs.Clauses.{pairs, one_hot}
use Rattle.dd_values.specs.lemmas.Booleans.{not_true, or_none}

abbrev pub at_most_one : (ℕ → Bool) → List ℕ → Bool
at_most_one set [] = true
at_most_one set (v ∷ vs) = (not (set v) || not (list_any set vs)) && at_most_one set vs

equal : (a b : ℕ) → a ≡ b → (a == b) ≡ true
equal a b h = grind arith

not_equal : (a b : ℕ) → (a ≡ b → ⊥) → (a == b) ≡ false
not_equal a b h = grind arith

cases_eq : (a b : ℕ) → (a ≡ b) ⊎ (a ≡ b → ⊥)
cases_eq a b = elim (cases_lt a b) [
  | inl low ↦ inr (λ e. omega (arith, low, e))
  | inr high ↦ elim (cases_lt b a) [ inl low ↦ inr (λ e. omega (arith, low, e)) | inr same ↦ inl (omega (arith, high, same)) ]
]

any_positive : (set : ℕ → Bool) (vs : List ℕ) → list_any (is_true_under set) (map (λ v. literal v true) vs) ≡ list_any set vs
any_positive set [] = refl
any_positive set (v ∷ vs) = rw (any_positive set vs) refl

cut_or : (a b c : Bool) → ((a || (not b || false)) && (a || not c)) ≡ (a || not (b || c))
cut_or true b c = refl
cut_or false true c = refl
cut_or false false c = refl

or_true : (a : Bool) → true ≡ (a || true)
or_true true = refl
or_true false = refl

pairs_first : (set : ℕ → Bool) (v : ℕ) (vs : List ℕ) → list_all (is_clause_true set) (map (λ w. literal v false ∷ literal w false ∷ []) vs) ≡ (not (set v) || not (list_any set vs))
pairs_first set v [] = or_true (not (set v))
pairs_first set v (w ∷ vs) = rw (pairs_first set v vs) (cut_or (not (set v)) (set w) (list_any set vs))

pairs_law : (set : ℕ → Bool) (vs : List ℕ) → is_satisfied set (pairs vs) ≡ at_most_one set vs
pairs_law set [] = refl
pairs_law set (v ∷ vs) =
    list_all-append (is_clause_true set) (map (λ w. literal v false ∷ literal w false ∷ []) vs) (pairs vs) ∙ rw (pairs_first set v vs, pairs_law set vs) refl

pub one_hot_law : (set : ℕ → Bool) (vs : List ℕ) → is_satisfied set (one_hot vs) ≡ (list_any set vs && at_most_one set vs)
one_hot_law set vs = rw (any_positive set vs, pairs_law set vs) refl

none_at : (set : ℕ → Bool) (vs : List ℕ) (s d : ℕ) → list_any set vs ≡ false → s < length vs → set (get_or vs s d) ≡ false
none_at set [] s d none h = absurd (omega arith)
none_at set (v ∷ vs) zero d none h = (or_none (set v) (list_any set vs) none).0
none_at set (v ∷ vs) (suc s) d none h = none_at set vs s d (or_none (set v) (list_any set vs) none).1 (omega arith)

first_place : (b : Bool) (p : ℕ) → b ≡ (cond (not b) (1 + p) 0 == 0)
first_place true p = refl
first_place false p = sym (not_equal (1 + p) 0 (λ e. omega (arith, e)))

later_place : (p s : ℕ) → (p == s) ≡ (1 + p == suc s)
later_place p s = elim (cases_eq p s) [
  | inl same ↦ equal p s same ∙ sym (equal (1 + p) (suc s) (omega (arith, same)))
  | inr other ↦ not_equal p s other ∙ sym (not_equal (1 + p) (suc s) (λ e. other (omega (arith, e))))
]

hot_step : (b : Bool) (set : ℕ → Bool) (vs : List ℕ) (s d : ℕ) → (b || list_any set vs) ≡ true → ((not b || not (list_any set vs)) && at_most_one set vs) ≡ true → s < length vs →
    (list_any set vs ≡ true → at_most_one set vs ≡ true → set (get_or vs s d) ≡ (position_or_len set vs == s)) →
    set (get_or vs s d) ≡ (cond (not b) (1 + position_or_len set vs) 0 == suc s)
hot_step true set vs s d any most h same =
    let both = and_parts (not (list_any set vs)) (at_most_one set vs) most in
    none_at set vs s d (not_true (list_any set vs) both.0) h ∙ sym (not_equal 0 (suc s) (λ e. omega (arith, e)))
hot_step false set vs s d any most h same = same any most ∙ later_place (position_or_len set vs) s

-- if exactly one variable is true, a variable is true exactly when its index is that of the true one
pub hot_at : (set : ℕ → Bool) (vs : List ℕ) (s d : ℕ) → list_any set vs ≡ true → at_most_one set vs ≡ true → s < length vs → set (get_or vs s d) ≡ (position_or_len set vs == s)
hot_at set [] s d any most h = absurd (omega arith)
hot_at set (v ∷ vs) zero d any most h = first_place (set v) (position_or_len set vs)
hot_at set (v ∷ vs) (suc s) d any most h = hot_step (set v) set vs s d any most (omega arith) (λ a m. hot_at set vs s d a m (omega arith))

below_step : (b : Bool) (p n : ℕ) → (b ≡ false → p < n) → cond (not b) (1 + p) 0 < suc n
below_step true p n h = omega arith
below_step false p n h = let q = h refl in omega (arith, q)

any_rest : (a b : Bool) → (a || b) ≡ true → a ≡ false → b ≡ true
any_rest true b h f = absurd (cc)
any_rest false b h f = h

pub hot_below : (set : ℕ → Bool) (vs : List ℕ) → list_any set vs ≡ true → position_or_len set vs < length vs
hot_below set [] any = absurd (cc)
hot_below set (v ∷ vs) any = below_step (set v) (position_or_len set vs) (length vs) (λ f. hot_below set vs (any_rest (set v) (list_any set vs) any f))

-- if only the variable with the number t may be true, and t is below the range, then no variable of the range is true, and so at most one is
pub cold_made : (set : ℕ → Bool) (f : ℕ → ℕ) (t n a : ℕ) → ((s : ℕ) → a ≤ s → s < a + n → set (f s) ≡ (t == s)) → t < a →
    (list_any set (map f (range_with_len a n)) ≡ false) × (at_most_one set (map f (range_with_len a n)) ≡ true)
cold_made set f t zero a says low = (refl, refl)
cold_made set f t (suc n) a says low =
    let rest = cold_made set f t n (a + 1) (λ s p q. says s (omega (arith, p)) (omega (arith, q))) (omega (arith, low)) in
    let first : set (f a) ≡ false = says a (omega arith) (omega arith) ∙ not_equal t a (omega (arith, low)) in
    (rw (first, rest.0) refl, rw (first, rest.1) refl)

-- the converse of `hot_at`: if the variable with the number t is the only true one, some variable is true, no two are, and the true one has the index
-- t - a in the list
pub hot_made : (set : ℕ → Bool) (f : ℕ → ℕ) (t n a : ℕ) → ((s : ℕ) → a ≤ s → s < a + n → set (f s) ≡ (t == s)) → a ≤ t → t < a + n →
    (list_any set (map f (range_with_len a n)) ≡ true) × (at_most_one set (map f (range_with_len a n)) ≡ true) × (a + position_or_len set (map f (range_with_len a n)) ≡ t)
hot_made set f t zero a says low high = absurd (omega arith)
hot_made set f t (suc n) a says low high = elim (cases_eq t a) [
  | inl same ↦
      let rest = cold_made set f t n (a + 1) (λ s p q. says s (omega (arith, p)) (omega (arith, q))) (omega (arith, same)) in
      let first : set (f a) ≡ true = says a (omega arith) (omega arith) ∙ equal t a same in
      (rw first refl, rw (first, rest.0, rest.1) refl, rw first (omega (arith, same)))
  | inr other ↦
      let rest = hot_made set f t n (a + 1) (λ s p q. says s (omega (arith, p)) (omega (arith, q))) (omega (arith, low, other)) (omega (arith, high)) in
      let first : set (f a) ≡ false = says a (omega arith) (omega arith) ∙ not_equal t a other in
      (rw (first, rest.0) refl, rw (first, rest.1) refl, rw first (let r = rest.2 in omega (arith, r)))
]
