-- How the counts of true literals give the first clause without a true literal.
use Rattle.std.proofs.Common.{◌≡◌, ℕ, zero, suc, ◌+◌, ◌<◌, Bool, true, false, cond, not, eqb, List, [], ◌∷◌, Some, refl, sym, ◌∙◌, ap, inl, inr, length, get_or, map, arith}
use Rattle.std.proofs.lemmas.Bool.{cases_Bool, ne_eqb, false≢true, not-true, not-false}
use Rattle.std.proofs.lemmas.List.{Sums.sum_by-cons, Elements.All-cons, Elements.All-nil}
use Rattle.std.specs.List.{count_by, sum_by, list_any, slice_get}
use Rattle.dd_clause.specs.{declared.clause.Literal.Literal, Clauses.is_true_under, Clauses.is_clause_true, Clauses.Satisfies}
use Rattle.dd_values.specs.Variables.{true_variables}
use Rattle.dd_engines.specs.Walks.{is_unsatisfied, first_unsatisfied}
use Rattle.dd_engines.specs.walking.Truths.{true_count, is_zero_at, NoneIsZero}

-- a clause has no true literal exactly when its count is 0
none_true : (p : Literal → Bool) (xs : List Literal) → eqb (count_by p xs) 0 ≡ not (list_any p xs)
none_true p [] = refl
none_true p (x ∷ xs) = elim (cases_Bool (p x)) [
  | inl t ↦ rw (sum_by-cons (λ y. cond (p y) 1 0) x xs, t) (some (sum_by (λ y. cond (p y) 1 0) xs))
  | inr f ↦ rw (sum_by-cons (λ y. cond (p y) 1 0) x xs, f) (zero_more (sum_by (λ y. cond (p y) 1 0) xs) ∙ none_true p xs)
]
  where
    some : (n : ℕ) → eqb (1 + n) 0 ≡ false
    some n = ne_eqb (1 + n) 0 (λ e. absurd (omega (arith, e)))

    zero_more : (n : ℕ) → eqb (0 + n) 0 ≡ eqb n 0
    zero_more n = ap (λ (k : ℕ). eqb k 0) (omega arith)

abbrev pub counts_of : List Bool → List (List Literal) → List ℕ
counts_of values cs = map (true_count values) cs

pub first_by_counts : (values : List Bool) (cs : List (List Literal)) (place : ℕ) → place < length cs → get_or (counts_of values cs) place 0 ≡ 0 → ((k : ℕ) → k < place → is_zero_at (counts_of values cs) k ≡ false)
    → first_unsatisfied values cs ≡ slice_get cs place
first_by_counts values [] place lt none before = absurd (omega (arith, lt))
first_by_counts values (c ∷ cs) zero lt none before =
    let here : is_unsatisfied values c ≡ true = sym (none_true (is_true_under (true_variables values)) c) ∙ ap (λ (n : ℕ). eqb n 0) none in
    rw here refl
first_by_counts values (c ∷ cs) (suc place) lt none before =
    let here : is_unsatisfied values c ≡ false = sym (none_true (is_true_under (true_variables values)) c) ∙ before 0 (omega arith) in
    rw here (first_by_counts values cs place (omega (arith, lt)) none (λ k h. before (suc k) (omega (arith, h))))

pub none_by_counts : (values : List Bool) (cs : List (List Literal)) → NoneIsZero (counts_of values cs) → Satisfies (true_variables values) cs
none_by_counts values [] none = All-nil (λ c. is_clause_true (true_variables values) c ≡ true)
none_by_counts values (c ∷ cs) none =
    let here : is_unsatisfied values c ≡ false = sym (none_true (is_true_under (true_variables values)) c) ∙ none 0 in
    All-cons (λ d. is_clause_true (true_variables values) d ≡ true) c cs (not-false _ here) (none_by_counts values cs (λ k. none (suc k)))

-- if there is a first clause without a true literal, the values do not satisfy the clauses
pub not_satisfied : (values : List Bool) (cs : List (List Literal)) (c : List Literal) → first_unsatisfied values cs ≡ Some c → Satisfies (true_variables values) cs → ⊥
not_satisfied values [] c h all = absurd (cc)
not_satisfied values (d ∷ cs) c h all = elim (cases_Bool (is_unsatisfied values d)) [
  | inl t ↦ false≢true (sym (not-true _ t) ∙ all 0 [] (omega arith))
  | inr f ↦ not_satisfied values cs c (rw f at h) (λ k e lt. all (suc k) e (omega (arith, lt)))
]
