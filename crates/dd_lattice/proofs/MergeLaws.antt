-- A walk through two ascending lists that always takes the lesser of their next positions gives the union of the lists.
use Rattle.std.proofs.Common.{◌≡◌, ◌↔◌, inl, inr, ℕ, ◌+◌, ◌<◌, ◌≤◌, List, [], ◌∷◌, ◌++◌, get_or, length, take, drop, sym, ap, subst, refl, ◌∙◌, arith}
use Rattle.std.proofs.Math.Seq.{take-add}
use Rattle.std.proofs.lemmas.List.{append-nil, drop-drop, drop_more, take-append-drop, drop_all, take_all}
use Rattle.std.proofs.lemmas.List.Elements.{All-contains, Contains-append_left, Contains-append_right, Contains-append_cases, Contains-push, Contains-push_cases}
use Rattle.std.specs.{List.Contains, List.Sorted.IsStrictlySortedBy, Ordering.ordering_reverse, declared.cmp.Ordering.Ordering}
use Rattle.std.specs.declared.cmp.Ordering.TheVariants.{Less, Equal, Greater}
use Rattle.dd_lattice.specs.{Place.Place, Place.IsInRange, Order.place_cmp, Regions.IsRegion, Regions.IsRegionOf, Regions.IsInEither}
use Rattle.dd_lattice.specs.listing.Merge.{next_position, from_left, from_right}
use Rattle.dd_lattice.specs.lemmas.InOrderLaws.{places_equal, place_total}
use Rattle.dd_values.specs.lemmas.Members.{All-from_contains, Contains-first, Contains-later, Contains-cons_cases, Contains-nil, sorted_append, sorted_push, sorted_first, sorted_rest}

-- `made` is ascending, and is the union of `left` and `right`, the parts of the two lists that the walk has taken. The rest of each list is ascending,
-- and comes after all positions of `made`.
pub record IsMerged (left left_rest right right_rest made : List Place) : Type 0 where
  pub ascending : IsStrictlySortedBy place_cmp made
  pub left_ascending : IsStrictlySortedBy place_cmp left_rest
  pub right_ascending : IsStrictlySortedBy place_cmp right_rest
  pub members : (p : Place) → Contains made p ↔ IsInEither left right p
  pub before_left : (p q : Place) → Contains made p → Contains left_rest q → place_cmp p q ≡ Less
  pub before_right : (p q : Place) → Contains made p → Contains right_rest q → place_cmp p q ≡ Less

pub nothing_merged : (left right : List Place) → IsStrictlySortedBy place_cmp left → IsStrictlySortedBy place_cmp right → IsMerged [] left [] right []
unfolding IsStrictlySortedBy
nothing_merged left right up up' = record {
  ascending = tt;
  left_ascending = up;
  right_ascending = up';
  members = λ p. (λ c. absurd (Contains-nil p c), λ h. elim h [ inl c ↦ absurd (Contains-nil p c) | inr c ↦ absurd (Contains-nil p c) ]);
  before_left = λ p q c d. absurd (Contains-nil p c);
  before_right = λ p q c d. absurd (Contains-nil p c);
}

swap_either : (left right : List Place) (p : Place) → IsInEither left right p → IsInEither right left p
swap_either left right p (inl c) = inr c
swap_either left right p (inr c) = inl c

-- IsMerged still holds after the two lists are exchanged
merged_swap : (l lr r rr made : List Place) → IsMerged l lr r rr made → IsMerged r rr l lr made
merged_swap l lr r rr made m = record {
  ascending = m.ascending;
  left_ascending = m.right_ascending;
  right_ascending = m.left_ascending;
  members = λ p. (λ c. swap_either l r p ((m.members p).0 c), λ h. (m.members p).1 (swap_either r l p h));
  before_left = m.before_right;
  before_right = m.before_left;
}

-- if one position is appended to the left part and to `made`, then `made` is still the union of both parts
members_push : (l r made : List Place) (x : Place) → ((p : Place) → Contains made p ↔ IsInEither l r p) →
    (p : Place) → Contains (made ++ x ∷ []) p ↔ IsInEither (l ++ x ∷ []) r p
members_push l r made x same p = (
  λ c. elim (Contains-push_cases made x p c) [
    | inl old ↦ elim ((same p).0 old) [
      | inl a ↦ inl (Contains-append_left l (x ∷ []) p a)
      | inr b ↦ inr b
    ]
    | inr is ↦ inl (subst (Contains (l ++ x ∷ [])) is (Contains-push l x))
  ],
  λ h. elim h [
    | inl a ↦ elim (Contains-push_cases l x p a) [
      | inl old ↦ Contains-append_left made (x ∷ []) p ((same p).1 (inl old))
      | inr is ↦ subst (Contains (made ++ x ∷ [])) is (Contains-push made x)
    ]
    | inr b ↦ Contains-append_left made (x ∷ []) p ((same p).1 (inr b))
  ],
)

-- if all positions of a list and one more position come before q, then so do all positions of the list with that position appended
before_push : (made : List Place) (x q : Place) → ((p : Place) → Contains made p → place_cmp p q ≡ Less) → place_cmp x q ≡ Less →
    (p : Place) → Contains (made ++ x ∷ []) p → place_cmp p q ≡ Less
before_push made x q old new p c = elim (Contains-push_cases made x p c) [
  | inl d ↦ old p d
  | inr is ↦ subst (λ z. place_cmp z q ≡ Less) is new
]

-- the walk takes the next position of the left list, which comes before the rest of the right list
take_left : (l lr r rr made : List Place) (x : Place) → IsMerged l (x ∷ lr) r rr made → ((q : Place) → Contains rr q → place_cmp x q ≡ Less) →
    IsMerged (l ++ x ∷ []) lr r rr (made ++ x ∷ [])
take_left l lr r rr made x m first = record {
  ascending = sorted_push place_cmp made x m.ascending (λ p c. m.before_left p x c (Contains-first x lr));
  left_ascending = sorted_rest place_cmp x lr m.left_ascending;
  right_ascending = m.right_ascending;
  members = members_push l r made x m.members;
  before_left = λ p q c d. before_push made x q (λ z e. m.before_left z q e (Contains-later x lr q d)) (sorted_first place_cmp x lr m.left_ascending q d) p c;
  before_right = λ p q c d. before_push made x q (λ z e. m.before_right z q e d) (first q d) p c;
}

-- if a position of the left part is appended to the right part, then `made` is still the union of both parts
members_both : (l r made : List Place) (x : Place) → Contains l x → ((p : Place) → Contains made p ↔ IsInEither l r p) →
    (p : Place) → Contains made p ↔ IsInEither l (r ++ x ∷ []) p
members_both l r made x has same p = (
  λ c. elim ((same p).0 c) [ inl a ↦ inl a | inr b ↦ inr (Contains-append_left r (x ∷ []) p b) ],
  λ h. elim h [
    | inl a ↦ (same p).1 (inl a)
    | inr b ↦ elim (Contains-push_cases r x p b) [
      | inl old ↦ (same p).1 (inr old)
      | inr is ↦ (same p).1 (inl (subst (Contains l) is has))
    ]
  ],
)

-- both lists have the same next position, and the walk takes it from both
take_both : (l lr r rr made : List Place) (x : Place) → IsMerged l (x ∷ lr) r (x ∷ rr) made →
    IsMerged (l ++ x ∷ []) lr (r ++ x ∷ []) rr (made ++ x ∷ [])
take_both l lr r rr made x m =
    let fewer : IsMerged l (x ∷ lr) r rr made = record {
      ascending = m.ascending;
      left_ascending = m.left_ascending;
      right_ascending = sorted_rest place_cmp x rr m.right_ascending;
      members = m.members;
      before_left = m.before_left;
      before_right = λ p q c d. m.before_right p q c (Contains-later x rr q d);
    } in
    let taken = take_left l lr r rr made x fewer (sorted_first place_cmp x rr m.right_ascending) in record {
      ascending = taken.ascending;
      left_ascending = taken.left_ascending;
      right_ascending = taken.right_ascending;
      members = members_both (l ++ x ∷ []) r (made ++ x ∷ []) x (Contains-push l x) taken.members;
      before_left = taken.before_left;
      before_right = taken.before_right;
    }

-- a position that comes before the first position of an ascending list comes before all of the list
before_all : (x y : Place) (ys : List Place) → IsStrictlySortedBy place_cmp (y ∷ ys) → place_cmp x y ≡ Less → (q : Place) → Contains (y ∷ ys) q → place_cmp x q ≡ Less
before_all x y ys up less q c = elim (Contains-cons_cases y ys q c) [
  | inl is ↦ subst (λ z. place_cmp x z ≡ Less) is less
  | inr later ↦ place_total.trans x y q less (sorted_first place_cmp y ys up q later)
]

less_from_greater : (x y : Place) → place_cmp x y ≡ Greater → place_cmp y x ≡ Less
less_from_greater x y h = place_total.antisymm y x ∙ ap ordering_reverse h

one_step : (l lr r rr made : List Place) (x y : Place) (o : Ordering) → place_cmp x y ≡ o → IsMerged l (x ∷ lr) r (y ∷ rr) made →
    IsMerged (l ++ take (from_left o) (x ∷ lr)) (drop (from_left o) (x ∷ lr)) (r ++ take (from_right o) (y ∷ rr)) (drop (from_right o) (y ∷ rr)) (made ++ next_position o x y ∷ [])
one_step l lr r rr made x y Less h m =
    rw append-nil (take_left l lr r (y ∷ rr) made x m (before_all x y rr m.right_ascending h))
one_step l lr r rr made x y Equal h m =
    let same = places_equal x y h in
    let P = λ (z : Place). IsMerged (l ++ x ∷ []) lr (r ++ z ∷ []) rr (made ++ x ∷ []) in
    subst P same (take_both l lr r rr made x (subst (λ z. IsMerged l (x ∷ lr) r (z ∷ rr) made) (sym same) m))
one_step l lr r rr made x y Greater h m =
    let back = merged_swap l (x ∷ lr) r (y ∷ rr) made m in
    let taken = take_left r rr l (x ∷ lr) made y back (before_all y x lr m.left_ascending (less_from_greater x y h)) in
    rw append-nil (merged_swap (r ++ y ∷ []) rr l (x ∷ lr) (made ++ y ∷ []) taken)

next_on : (xs : List Place) (i : ℕ) (x : Place) → i < length xs → x ≡ get_or xs i x → drop i xs ≡ x ∷ drop (i + 1) xs
next_on xs i x below is = drop_more xs i x below ∙ ap (λ z. z ∷ drop (i + 1) xs) (sym is)

-- one step of the walk, where i and j positions have been taken from the two lists
pub merged_step : (xs ys made : List Place) (i j : ℕ) (x y : Place) → i < length xs → j < length ys → x ≡ get_or xs i x → y ≡ get_or ys j y →
    IsMerged (take i xs) (drop i xs) (take j ys) (drop j ys) made →
    IsMerged (take (i + from_left (place_cmp x y)) xs) (drop (i + from_left (place_cmp x y)) xs) (take (j + from_right (place_cmp x y)) ys) (drop (j + from_right (place_cmp x y)) ys) (made ++ next_position (place_cmp x y) x y ∷ [])
merged_step xs ys made i j x y h k is is' m =
    let o = place_cmp x y in
    let e = next_on xs i x h is in
    let e' = next_on ys j y k is' in
    let now : IsMerged (take i xs) (x ∷ drop (i + 1) xs) (take j ys) (y ∷ drop (j + 1) ys) made =
    subst (λ r. IsMerged (take i xs) (x ∷ drop (i + 1) xs) (take j ys) r made) e' (subst (λ r. IsMerged (take i xs) r (take j ys) (drop j ys) made) e m) in
    let after = one_step (take i xs) (drop (i + 1) xs) (take j ys) (drop (j + 1) ys) made x y o refl now in
    rw (take-add i (from_left o) xs, take-add j (from_right o) ys, sym (drop-drop (from_left o) i xs), sym (drop-drop (from_right o) j ys), e, e') after

pub from_left_most : (o : Ordering) → from_left o ≤ 1
from_left_most Less = omega arith
from_left_most Equal = omega arith
from_left_most Greater = omega arith

pub from_right_most : (o : Ordering) → from_right o ≤ 1
from_right_most Less = omega arith
from_right_most Equal = omega arith
from_right_most Greater = omega arith

members_rest : (l r made rest : List Place) → ((p : Place) → Contains made p ↔ IsInEither l r p) → (p : Place) → Contains (made ++ rest) p ↔ IsInEither (l ++ rest) r p
members_rest l r made rest same p = (
  λ c. elim (Contains-append_cases made rest p c) [
    | inl old ↦ elim ((same p).0 old) [
      | inl a ↦ inl (Contains-append_left l rest p a)
      | inr b ↦ inr b
    ]
    | inr new ↦ inl (Contains-append_right l rest p new)
  ],
  λ h. elim h [
    | inl a ↦ elim (Contains-append_cases l rest p a) [
      | inl old ↦ Contains-append_left made rest p ((same p).1 (inl old))
      | inr new ↦ Contains-append_right made rest p new
    ]
    | inr b ↦ Contains-append_left made rest p ((same p).1 (inr b))
  ],
)

region_from : (xs ys made : List Place) → IsRegion xs → IsRegion ys → IsStrictlySortedBy place_cmp made → ((p : Place) → Contains made p ↔ IsInEither xs ys p) →
    IsRegionOf (IsInEither xs ys) made
region_from xs ys made left right up same = record {
  region = record {
    ascending = up;
    in_range = All-from_contains IsInRange made (λ q c. elim ((same q).0 c) [
      | inl a ↦ All-contains IsInRange xs q left.in_range a
      | inr b ↦ All-contains IsInRange ys q right.in_range b
    ]);
  };
  members = same;
}

-- once the right list is at its end, the rest of the left list follows
left_follows : (xs ys made : List Place) (i j : ℕ) → IsRegion xs → IsRegion ys → IsMerged (take i xs) (drop i xs) (take j ys) (drop j ys) made → length ys ≤ j →
    IsRegionOf (IsInEither xs ys) (made ++ drop i xs)
left_follows xs ys made i j left right m all =
    let same = members_rest (take i xs) (take j ys) made (drop i xs) m.members in
    let whole : (p : Place) → Contains (made ++ drop i xs) p ↔ IsInEither xs ys p = rw (take-append-drop i xs, take_all j ys all) at same in
    region_from xs ys (made ++ drop i xs) left right (sorted_append place_cmp made (drop i xs) m.ascending m.left_ascending m.before_left) whole

pub right_follows : (xs ys made : List Place) (i j : ℕ) → IsRegion xs → IsRegion ys → IsMerged (take i xs) (drop i xs) (take j ys) (drop j ys) made → length xs ≤ i →
    IsRegionOf (IsInEither xs ys) (made ++ drop i xs ++ drop j ys)
right_follows xs ys made i j left right m all =
    let back = left_follows ys xs made j i right left (merged_swap _ _ _ _ made m) all in
    rw (drop_all i xs all, append-nil made) (record {
      region = back.region;
      members = λ p. (λ c. swap_either ys xs p ((back.members p).0 c), λ h. (back.members p).1 (swap_either xs ys p h));
    })

pub nothing_follows : (xs ys made : List Place) (i j : ℕ) → IsRegion xs → IsRegion ys → IsMerged (take i xs) (drop i xs) (take j ys) (drop j ys) made → length ys ≤ j →
    IsRegionOf (IsInEither xs ys) (made ++ drop i xs ++ drop j ys)
nothing_follows xs ys made i j left right m all = rw (drop_all j ys all, append-nil (made ++ drop i xs)) (left_follows xs ys made i j left right m all)
