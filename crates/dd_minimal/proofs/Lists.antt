-- Members of lists, and lists that ascend strictly.
use Rattle.std.proofs.Common.{◌≡◌, ◌<◌, ◌≤◌, ◌+◌, ◌&&◌, ◌||◌, ℕ, zero, suc, Bool, true, false, List, [], ◌∷◌, map, refl, sym, inl, inr, arith}
use Rattle.std.proofs.lemmas.Bool.{false≢true}
use Rattle.std.proofs.lemmas.List.Elements.{All-filter, All-map, All-weaker, All-contains, All-contains_itself, All-from_recursion, recursion_from_All, filter_passes}
use Rattle.std.specs.List.{Contains, filter, range_with_len, list_all, list_any, Sorted.IsStrictlySortedBy}
use Rattle.std.specs.declared.cmp.Ordering.{Ordering, TheVariants.Less}
use Rattle.dd_values.specs.lemmas.Members.{Contains-later, Contains-cons_cases, All-from_contains, Contains-first, Contains-nil}

-- ---- members of mapped lists

-- y is f of some item of the list

pub record IsImage {X Y : Type 0} (f : X → Y) (xs : List X) (y : Y) : Type 0 where
  pub of : X
  pub listed : Contains xs of
  pub is : f of ≡ y

pub of_map : {X Y : Type 0} (f : X → Y) (xs : List X) (y : Y) → Contains (map f xs) y → IsImage f xs y
of_map f [] y c = absurd (Contains-nil y c)
of_map f (x ∷ xs) y c = elim (Contains-cons_cases (f x) (map f xs) y c) [
  | inl same ↦ record { of = x; listed = Contains-first x xs; is = same }
  | inr there ↦ let o = of_map f xs y there in record { of = o.of; listed = Contains-later x xs o.of o.listed; is = o.is }
]

-- ---- members of ranges and of filtered lists

-- s is in the range of n numbers that begins at k

pub record IsWithin (k n s : ℕ) : Type 0 where
  pub from : k ≤ s
  pub below : s < k + n

pub range_within : (k n s : ℕ) → Contains (range_with_len k n) s → IsWithin k n s
range_within k zero s c = absurd (Contains-nil s c)
range_within k (suc n) s c = elim (Contains-cons_cases k (range_with_len (k + 1) n) s c) [
  | inl same ↦ record { from = omega (arith, same); below = omega (arith, same) }
  | inr there ↦ let later = range_within (k + 1) n s there in record { from = omega (arith, later.from); below = omega (arith, later.below) }
]

-- each member of a filtered list is a member of the list, and passes the test

pub of_filter : {X : Type 0} (p : X → Bool) (xs : List X) (x : X) → Contains (filter p xs) x → Contains xs x × (p x ≡ true)
of_filter p xs x c = (
  All-contains (Contains xs) (filter p xs) x (All-filter p (Contains xs) xs (All-contains_itself xs)) c,
  All-contains (λ y. p y ≡ true) (filter p xs) x (filter_passes p xs) c,
)

-- ---- tests

-- for some member of the list, f gives b
pub record Gives {X : Type 0} (f : X → Bool) (b : Bool) (xs : List X) : Type 0 where
  pub at : X
  pub listed : Contains xs at
  pub is : f at ≡ b

gives_here : {X : Type 0} (f : X → Bool) (b : Bool) (x : X) (xs : List X) → f x ≡ b → Gives f b (x ∷ xs)
gives_here f b x xs is = record { at = x; listed = Contains-first x xs; is = is }

gives_later : {X : Type 0} (f : X → Bool) (b : Bool) (x : X) (xs : List X) → Gives f b xs → Gives f b (x ∷ xs)
gives_later f b x xs g = record { at = g.at; listed = Contains-later x xs g.at g.listed; is = g.is }

fails_at : {X : Type 0} (f : X → Bool) (x : X) (xs : List X) (b : Bool) → f x ≡ b → (list_all f xs ≡ false → Gives f false xs) → (b && list_all f xs) ≡ false → Gives f false (x ∷ xs)
fails_at f x xs true is later h = gives_later f false x xs (later h)
fails_at f x xs false is later h = gives_here f false x xs is

pub fails : {X : Type 0} (f : X → Bool) (xs : List X) → list_all f xs ≡ false → Gives f false xs
fails f [] h = absurd (false≢true (sym h))
fails f (x ∷ xs) h = fails_at f x xs (f x) refl (fails f xs) h

has_at : {X : Type 0} (f : X → Bool) (x : X) (xs : List X) (b : Bool) → f x ≡ b → (list_any f xs ≡ true → Gives f true xs) → (b || list_any f xs) ≡ true → Gives f true (x ∷ xs)
has_at f x xs true is later h = gives_here f true x xs is
has_at f x xs false is later h = gives_later f true x xs (later h)

pub has : {X : Type 0} (f : X → Bool) (xs : List X) → list_any f xs ≡ true → Gives f true xs
has f [] h = absurd (false≢true h)
has f (x ∷ xs) h = has_at f x xs (f x) refl (has f xs) h

-- ---- lists that ascend strictly

-- a map that keeps the order, applied to each item, keeps a list strictly ascending
pub sorted_map : {K L : Type 0} (R : K → K → Ordering) (S : L → L → Ordering) (f : K → L) → ((p q : K) → R p q ≡ Less → S (f p) (f q) ≡ Less) →
    (xs : List K) → IsStrictlySortedBy R xs → IsStrictlySortedBy S (map f xs)
unfolding IsStrictlySortedBy
sorted_map R S f keeps [] up = tt
sorted_map {K} {L} R S f keeps (x ∷ xs) up =
    let P : L → Type 0 = λ y. S (f x) y ≡ Less in
    let Q : K → Type 0 = λ y. R x y ≡ Less in (
      recursion_from_All P (map f xs) (All-map P f xs (All-weaker Q (λ y. P (f y)) (λ y less. keeps x y less) xs (All-from_recursion Q xs up.0))),
      sorted_map R S f keeps xs up.1,
    )
