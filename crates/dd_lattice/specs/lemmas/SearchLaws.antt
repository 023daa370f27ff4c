-- What a binary search in a strictly ascending list finds.
use Rattle.std.proofs.Common.{◌≡◌, ℕ, suc, List, length, get_or, ap, ◌∙◌, arith, Ok, Err, Result, add-one, inl, inr, ◌⊎◌}
use Rattle.std.proofs.lemmas.{List.Sorted.searchable_from_sorted, Map.Lookups.CmpEqualImpliesEq, Map.Keys.Less-from_sorted}
use Rattle.std.proofs.lemmas.Bool.{cases_lt}
use Rattle.std.specs.{Result.MatchResult, List.Contains}
use Rattle.std.specs.List.Sorted.{IsStrictlySortedBy, IsSortedBy, IsBinarySearchResult, IsSearchInRange}
use Rattle.std.specs.{Ordering.is_lt, Ordering.ordering_reverse, Cmp.IsTotalOrder, Cmp.tied_itself, declared.cmp.Ordering.Ordering}
use Rattle.std.specs.declared.cmp.Ordering.TheVariants.{Less, Greater}

sorted_in_order : {K : Type 0} {R : K → K → Ordering} → IsTotalOrder R → (ks : List K) → IsStrictlySortedBy R ks → IsSortedBy (λ a b. is_lt (R a b)) ks
sorted_in_order {K} {R} o ks up k d _ h =
    let less = Less-from_sorted R ks k (suc k) d up (omega arith) (omega arith) in
    rw add-one (ap is_lt (o.antisymm (get_or ks (suc k) d) (get_or ks k d) ∙ ap ordering_reverse less))

refute : {K : Type 0} {R : K → K → Ordering} → IsTotalOrder R → (p q : K) → q ≡ p → (R q p ≡ Less) ⊎ (R q p ≡ Greater) → ⊥
refute {K} {R} o p q e (inl h) = absurd (let same = ap (λ x. R x p) e in let tie = tied_itself o p in cc)
refute {K} {R} o p q e (inr h) = absurd (let same = ap (λ x. R x p) e in let tie = tied_itself o p in cc)

pub search_tells : {K : Type 0} {R : K → K → Ordering} → IsTotalOrder R → CmpEqualImpliesEq R → (ks : List K) (k : K) (r : Result ℕ ℕ) → IsStrictlySortedBy R ks →
    IsSearchInRange r (length ks) → IsBinarySearchResult (λ y. R y k) ks r → MatchResult r (λ _. Contains ks k) (λ _. Contains ks k → ⊥)
search_tells o exact ks k (Ok i) up within h = (i, within, exact (get_or ks i k) k (h k))
search_tells {K} {R} o exact ks k (Err i) up within h = λ c.
    let parts = h (searchable_from_sorted o (λ x. x) ks k (sorted_in_order o ks up)) in
    elim (cases_lt c.0 i) [
      | inl below ↦ refute o k (get_or ks c.0 k) c.2 (inl (parts.0 c.0 k (omega arith) below))
      | inr above ↦ refute o k (get_or ks c.0 k) c.2 (inr (parts.1 c.0 k above c.1))
    ]
