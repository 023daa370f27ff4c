-- Ascending lists, whose items are called keys: the place of a key, and the list after a key is inserted.
use Rattle.std.proofs.Common.{◌≡◌, ◌<◌, ◌≤◌, ℕ, zero, suc, List, [], ◌∷◌, ◌++◌, length, get_or, take, drop, refl, sym, ◌∙◌, ap, subst, inl, inr, arith, Ok, Err, Result, add-one}
use Rattle.std.proofs.lemmas.{Bool.cases_lt, List.Elements.All-from_recursion, List.Elements.recursion_from_All}
use Rattle.std.proofs.lemmas.{List.Sorted.searchable_from_sorted, List.Sums.position_or_len_is, Map.Keys.Less-from_sorted}
use Rattle.std.proofs.lemmas.Map.Views.{All-insert_key}
use Rattle.std.specs.{Result.MatchResult, List.position_or_len, List.AllWithin}
use Rattle.std.specs.List.Sorted.{IsStrictlySortedBy, IsSortedBy, IsBinarySearchResult, IsSearchInRange}
use Rattle.std.specs.{BTreeSet.insert_key, Ordering.is_eq, Ordering.is_lt, Ordering.ordering_reverse, Ordering.match_ordering}
use Rattle.std.specs.{Cmp.IsTotalOrder, declared.cmp.Ordering.Ordering}
use Rattle.std.specs.declared.cmp.Ordering.TheVariants.{Less, Equal, Greater}
use Rattle.dd_values.specs.lemmas.Lists.{all_cons}

module _ {K : Type 0} {R : K → K → Ordering} (o : IsTotalOrder R) where
  turned : (x y : K) (r : Ordering) → R x y ≡ r → R y x ≡ ordering_reverse r
  turned x y r h = o.antisymm y x ∙ ap ordering_reverse h

  -- a key that is less than a key equal to k is less than k
  before_equal : (x y k : K) → R x y ≡ Less → R y k ≡ Equal → R x k ≡ Less
  before_equal x y k less tie = turned k x Greater (sym (o.congr y k x tie) ∙ turned x y Less less)

  in_order : (ks : List K) → IsStrictlySortedBy R ks → IsSortedBy (λ a b. is_lt (R a b)) ks
  in_order ks up k d _ h =
      let less = Less-from_sorted R ks k (suc k) d up (omega arith) (omega arith) in
      rw add-one (ap is_lt (turned (get_or ks k d) (get_or ks (suc k) d) Less less))

  -- a binary search for a key finds the key's index, or shows that the key isn't in the list
  pub number_searched : (ks : List K) (k : K) (r : Result ℕ ℕ) → IsStrictlySortedBy R ks → IsSearchInRange r (length ks) → IsBinarySearchResult (λ y. R y k) ks r →
      MatchResult r (λ i. position_or_len (λ y. is_eq (R y k)) ks ≡ i) (λ _. position_or_len (λ y. is_eq (R y k)) ks ≡ length ks)
  number_searched ks k (Ok i) up within h =
      position_or_len_is (λ y. is_eq (R y k)) ks i k (omega (arith, within))
      (λ j below. ap is_eq (before_equal (get_or ks j k) (get_or ks i k) k (Less-from_sorted R ks j i k up below within) (h k)))
      (λ _. ap is_eq (h k))
  number_searched ks k (Err i) up within h =
      let parts = h (searchable_from_sorted o (λ x. x) ks k (in_order ks up)) in
      position_or_len_is (λ y. is_eq (R y k)) ks (length ks) k (omega arith)
      (λ j below. elim (cases_lt j i) [
        | inl less ↦ ap is_eq (parts.0 j k (omega arith) less)
        | inr more ↦ ap is_eq (parts.1 j k more below)
      ])
      (λ past. absurd (omega (arith, past)))

  -- inserting a key that is already there changes nothing
  pub insert_present : (ks : List K) (i : ℕ) (k : K) → IsStrictlySortedBy R ks → i < length ks → R (get_or ks i k) k ≡ Equal → insert_key R ks k ≡ ks
  unfolding IsStrictlySortedBy
  insert_present [] i k up within h = absurd (omega (arith, within))
  insert_present (x ∷ ks) zero k up within h = ap (λ r. match_ordering r (k ∷ x ∷ ks) (x ∷ ks) (x ∷ insert_key R ks k)) (turned x k Equal h)
  insert_present (x ∷ ks) (suc i) k up within h =
      let inside : i < length ks = omega (arith, within) in
      let less : R x k ≡ Less = before_equal x (get_or ks i k) k (All-from_recursion (λ y. R x y ≡ Less) ks up.0 i k inside) h in
      ap (λ r. match_ordering r (k ∷ x ∷ ks) (x ∷ ks) (x ∷ insert_key R ks k)) (turned x k Less less)
      ∙ ap (λ (ys : List K). x ∷ ys) (insert_present ks i k up.1 inside h)

  -- a new key is inserted right after the lesser ones
  insert_absent : (ks : List K) (i : ℕ) (k : K) → i ≤ length ks → AllWithin (λ y. R y k ≡ Less) ks 0 i → AllWithin (λ y. R y k ≡ Greater) ks i (length ks) →
      insert_key R ks k ≡ take i ks ++ k ∷ drop i ks
  insert_absent [] zero k within below above = refl
  insert_absent [] (suc i) k within below above = absurd (omega (arith, within))
  insert_absent (x ∷ ks) zero k within below above =
      ap (λ r. match_ordering r (k ∷ x ∷ ks) (x ∷ ks) (x ∷ insert_key R ks k)) (turned x k Greater (above zero x (omega arith) (omega arith)))
  insert_absent (x ∷ ks) (suc i) k within below above =
      ap (λ r. match_ordering r (k ∷ x ∷ ks) (x ∷ ks) (x ∷ insert_key R ks k)) (turned x k Less (below zero x (omega arith) (omega arith)))
      ∙ ap (λ (ys : List K). x ∷ ys)
      (insert_absent ks i k (omega (arith, within)) (λ j d low high. below (suc j) d (omega arith) (omega (arith, high))) (λ j d low high. above (suc j) d (omega (arith, low)) (omega (arith, high))))

  pub insert_missing : (ks : List K) (i : ℕ) (k : K) → IsStrictlySortedBy R ks → i ≤ length ks → IsBinarySearchResult (λ y. R y k) ks (Err i) →
      insert_key R ks k ≡ take i ks ++ k ∷ drop i ks
  insert_missing ks i k up within h =
      let parts = h (searchable_from_sorted o (λ x. x) ks k (in_order ks up)) in
      insert_absent ks i k within parts.0 parts.1

  ascends_from : (x k : K) (ks : List K) (r : Ordering) → R k x ≡ r → IsStrictlySortedBy R (x ∷ ks) → IsStrictlySortedBy R (insert_key R ks k) →
      IsStrictlySortedBy R (match_ordering r (k ∷ x ∷ ks) (x ∷ ks) (x ∷ insert_key R ks k))
  unfolding IsStrictlySortedBy
  ascends_from x k ks Less h up there =
      let P : K → Type 0 = λ y. R k y ≡ Less in
      let first = All-from_recursion (λ y. R x y ≡ Less) ks up.0 in
      (recursion_from_All P (x ∷ ks) (all_cons P x ks h (λ j d within. o.trans k x (get_or ks j d) h (first j d within))), up)
  ascends_from x k ks Equal h up there = up
  ascends_from x k ks Greater h up there =
      let P : K → Type 0 = λ y. R x y ≡ Less in
      (recursion_from_All P (insert_key R ks k) (All-insert_key R k P ks (All-from_recursion P ks up.0) (turned k x Greater h)), there)

  pub insert_ascends : (ks : List K) (k : K) → IsStrictlySortedBy R ks → IsStrictlySortedBy R (insert_key R ks k)
  unfolding IsStrictlySortedBy
  insert_ascends [] k up = (tt, tt)
  insert_ascends (x ∷ ks) k up = ascends_from x k ks (R k x) refl up (insert_ascends ks k up.1)

pub ascends_empty : {K : Type 0} (R : K → K → Ordering) → IsStrictlySortedBy R []
unfolding IsStrictlySortedBy
ascends_empty R = tt

-- a search in a slice of the keys, and what follows from its answer
module _ {K : Type 0} {R : K → K → Ordering} (o : IsTotalOrder R) (ks slice now : List K) (up : IsStrictlySortedBy R ks) (lent : slice ≡ ks) (view : ks ≡ now) where
  whole : slice ≡ now
  whole = lent ∙ view

  pub numbered : (k : K) (r : Result ℕ ℕ) → IsSearchInRange r (length slice) → IsBinarySearchResult (λ y. R y k) slice r →
      MatchResult r (λ i. i ≡ position_or_len (λ y. is_eq (R y k)) now) (λ _. length ks ≡ position_or_len (λ y. is_eq (R y k)) now)
  numbered k (Ok i) within h =
      sym (number_searched o slice k (Ok i) (subst (IsStrictlySortedBy R) (sym lent) up) within h) ∙ ap (position_or_len (λ y. is_eq (R y k))) whole
  numbered k (Err i) within h =
      ap length (sym lent) ∙ (sym (number_searched o slice k (Err i) (subst (IsStrictlySortedBy R) (sym lent) up) within h) ∙ ap (position_or_len (λ y. is_eq (R y k))) whole)

  pub found_already : (i : ℕ) (k : K) → i < length slice → R (get_or slice i k) k ≡ Equal → now ≡ insert_key R now k
  found_already i k within tie =
      subst (λ xs. xs ≡ insert_key R xs k) whole (sym (insert_present o slice i k (subst (IsStrictlySortedBy R) (sym lent) up) within tie))

  pub put_there : (i : ℕ) (k copy : K) (new : List K) → i ≤ length slice → IsBinarySearchResult (λ y. R y k) slice (Err i) → copy ≡ k → new ≡ take i ks ++ copy ∷ drop i ks →
      new ≡ insert_key R now k
  put_there i k copy new within h same is =
      is ∙ (ap (λ (e : K). take i ks ++ e ∷ drop i ks) same
      ∙ (ap (λ (xs : List K). take i xs ++ k ∷ drop i xs) (sym lent)
      ∙ (sym (insert_missing o slice i k (subst (IsStrictlySortedBy R) (sym lent) up) within h) ∙ ap (λ xs. insert_key R xs k) whole)))

  pub ascends_still : (k : K) (new : List K) → new ≡ insert_key R now k → IsStrictlySortedBy R new
  ascends_still k new is = subst (IsStrictlySortedBy R) (sym is) (insert_ascends o now k (subst (IsStrictlySortedBy R) view up))

longer_from : {K : Type 0} (x k : K) (ks more : List K) (r : Ordering) → length ks ≤ length more → length (x ∷ ks) ≤ length (match_ordering r (k ∷ x ∷ ks) (x ∷ ks) (x ∷ more))
longer_from x k ks more Less h = omega arith
longer_from x k ks more Equal h = omega arith
longer_from x k ks more Greater h = omega (arith, h)

-- an insertion doesn't make the list shorter
pub insert_grows : {K : Type 0} (R : K → K → Ordering) (ks : List K) (k : K) → length ks ≤ length (insert_key R ks k)
insert_grows R [] k = omega arith
insert_grows R (x ∷ ks) k = longer_from x k ks (insert_key R ks k) (R k x) (insert_grows R ks k)
