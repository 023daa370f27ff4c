-- The list of a box's positions, in the order of their numbers, is ascending. It has exactly the positions within the box.
use Rattle.std.proofs.Common.{◌≡◌, ℕ, zero, suc, ◌+◌, ◌*◌, ◌<◌, ◌≤◌, [], ◌∷◌, ◌++◌, ℤ, ◌≤ℤ◌, arith, ap, sym, subst, inl, inr}
use Rattle.std.proofs.lemmas.{Int.ints, Nat.mul-add-lt, Nat.same_from_place, Bool.cases_order, Bool.cases_lt}
use Rattle.std.proofs.lemmas.List.Elements.{Contains-append_left, Contains-push, Contains-push_cases}
use Rattle.std.specs.{Int.Signed.◌<ℤ◌, List.Contains, List.Sorted.IsStrictlySortedBy, Ordering.int_cmp, Ordering.ordering_then}
use Rattle.std.specs.declared.cmp.Ordering.TheVariants.{Less, Equal}
use Rattle.dd_lattice.specs.{Place.Place, Place.IsInRange, Order.place_cmp}
use Rattle.dd_lattice.specs.Boxes.{Bounds, IsAtMostOnEachAxis, IsBox, IsWithin, gap, span, volume, index_in, place_in, first_positions, positions_of}
use Rattle.dd_lattice.specs.Regions.{IsRegionOf}
use Rattle.dd_lattice.specs.lemmas.BoxLaws.{gap_below, index_below, index_of_place, place_at_index, place_within}
use Rattle.dd_values.specs.lemmas.Members.{All-from_contains, Contains-nil, sorted_push}
use Rattle.dd_values.specs.lemmas.Numbers.{cmp_less, cmp_equal}

abbrev IsBefore : Place → Place → Type 0
IsBefore p q = place_cmp p q ≡ Less

-- in a table that is numbered row by row, each number in a later row is greater than each number in an earlier row
table_order : (a b c d w : ℕ) → a < c → b < w → a * w + b < c * w + d
table_order a b c d w p q = omega (arith, mul-add-lt a w b c p q)

gap_order : (low x y : ℤ) → low ≤ℤ x → low ≤ℤ y → gap low x < gap low y → x <ℤ y
gap_order low x y p q h = omega (arith, ints)

gap_same : (low x y : ℤ) → low ≤ℤ x → low ≤ℤ y → gap low x ≡ gap low y → x ≡ y
gap_same low x y p q h = omega (arith, ints)

abbrev row_in : Bounds → Place → ℕ
row_in b p = gap b.low.z p.z * span b.low.y b.high.y + gap b.low.y p.y

before_by_row : (b : Bounds) (p q : Place) → IsWithin b p → IsWithin b q → row_in b p < row_in b q → ordering_then (int_cmp p.z q.z) (int_cmp p.y q.y) ≡ Less
before_by_row b p q hp hq h =
    elim (cases_order (gap b.low.z p.z) (gap b.low.z q.z)) [
      | inl same ↦
          (let y_less : gap b.low.y p.y < gap b.low.y q.y = omega (arith, ap (λ n. n * span b.low.y b.high.y) same) in
          rw (cmp_equal p.z q.z (gap_same _ _ _ hp.0.on_z hq.0.on_z same)) (cmp_less p.y q.y (gap_order _ _ _ hp.0.on_y hq.0.on_y y_less)))
      | inr (inl less) ↦ rw (cmp_less p.z q.z (gap_order _ _ _ hp.0.on_z hq.0.on_z less))
      | inr (inr more) ↦
          absurd (let past = table_order _ (gap b.low.y q.y) _ (gap b.low.y p.y) (span b.low.y b.high.y) more (gap_below _ _ _ hq.0.on_y hq.1.on_y) in omega arith)
    ]

same_row : (b : Bounds) (p q : Place) → IsWithin b p → IsWithin b q → row_in b p ≡ row_in b q → ordering_then (int_cmp p.z q.z) (int_cmp p.y q.y) ≡ Equal
same_row b p q hp hq h =
    let both = same_from_place (gap b.low.z p.z) (gap b.low.y p.y) (gap b.low.z q.z) (gap b.low.y q.y) (span b.low.y b.high.y)
    (gap_below _ _ _ hp.0.on_y hp.1.on_y) (gap_below _ _ _ hq.0.on_y hq.1.on_y) h in
    rw (cmp_equal p.z q.z (gap_same _ _ _ hp.0.on_z hq.0.on_z both.0), cmp_equal p.y q.y (gap_same _ _ _ hp.0.on_y hq.0.on_y both.1))

before_by_index : (b : Bounds) (p q : Place) → IsWithin b p → IsWithin b q → index_in b p < index_in b q → IsBefore p q
before_by_index b p q hp hq h =
    elim (cases_order (row_in b p) (row_in b q)) [
      | inl same ↦
          (let x_less : gap b.low.x p.x < gap b.low.x q.x = omega (arith, ap (λ n. n * span b.low.x b.high.x) same) in
          rw (same_row b p q hp hq same) (cmp_less p.x q.x (gap_order _ _ _ hp.0.on_x hq.0.on_x x_less)))
      | inr (inl less) ↦ rw (before_by_row b p q hp hq less)
      | inr (inr more) ↦
          absurd (let past = table_order _ (gap b.low.x q.x) _ (gap b.low.x p.x) (span b.low.x b.high.x) more (gap_below _ _ _ hq.0.on_x hq.1.on_x) in omega arith)
    ]

place_before : (b : Bounds) → IsAtMostOnEachAxis b.low b.high → (i n : ℕ) → i < n → n < volume b → IsBefore (place_in b i) (place_in b n)
place_before b o i n h k =
    before_by_index b (place_in b i) (place_in b n) (place_within b i o (omega arith)) (place_within b n o k)
    (rw (index_of_place b i, index_of_place b n) h)

-- a position among the first n has a number below n
number_of : (b : Bounds) (n : ℕ) (p : Place) → Contains (first_positions b n) p → (i : ℕ) × (i < n) × (p ≡ place_in b i)
number_of b zero p c = absurd (Contains-nil p c)
number_of b (suc n) p c = elim (Contains-push_cases (first_positions b n) (place_in b n) p c) [
  | inl old ↦ (let found = number_of b n p old in (found.0, omega (arith, found.1), found.2))
  | inr is ↦ (n, omega arith, sym is)
]

-- the position of each number below n is among the first n
contains_number : (b : Bounds) (n i : ℕ) → i < n → Contains (first_positions b n) (place_in b i)
contains_number b zero i h = absurd (omega arith)
contains_number b (suc n) i h = elim (cases_lt i n) [
  | inl below ↦ Contains-append_left (first_positions b n) (place_in b n ∷ []) (place_in b i) (contains_number b n i below)
  | inr above ↦ (let same : n ≡ i = omega arith in subst (λ k. Contains (first_positions b n ++ place_in b n ∷ []) (place_in b k)) same (Contains-push (first_positions b n) (place_in b n)))
]

pub first_ascending : (b : Bounds) → IsAtMostOnEachAxis b.low b.high → (n : ℕ) → n ≤ volume b → IsStrictlySortedBy place_cmp (first_positions b n)
unfolding IsStrictlySortedBy
first_ascending b o zero h = tt
first_ascending b o (suc n) h = sorted_push place_cmp (first_positions b n) (place_in b n) (first_ascending b o n (omega arith)) (λ p c.
    let found = number_of b n p c in
    subst (λ z. IsBefore z (place_in b n)) (sym found.2) (place_before b o found.0 n found.1 (omega arith)))

within_range : (b : Bounds) (p : Place) → IsBox b → IsWithin b p → IsInRange p
within_range b p box h =
    let l = box.low_in_range in
    let u = box.high_in_range in
    ((omega (arith, ints), omega (arith, ints)), (omega (arith, ints), omega (arith, ints)), (omega (arith, ints), omega (arith, ints)))

within_from_contains : (b : Bounds) → IsBox b → (p : Place) → Contains (positions_of b) p → IsWithin b p
within_from_contains b box p c =
    let found = number_of b (volume b) p c in
    subst (IsWithin b) (sym found.2) (place_within b found.0 box.ordered found.1)

contains_from_within : (b : Bounds) (p : Place) → IsWithin b p → Contains (positions_of b) p
contains_from_within b p h = subst (Contains (positions_of b)) (place_at_index b p h) (contains_number b (volume b) (index_in b p) (index_below b p h))

pub positions_region : (b : Bounds) → IsBox b → IsRegionOf (IsWithin b) (positions_of b)
positions_region b box = record {
  region = record {
    ascending = first_ascending b box.ordered (volume b) (omega arith);
    in_range = All-from_contains IsInRange (positions_of b) (λ q c. within_range b q box (within_from_contains b box q c));
  };
  members = λ p. (within_from_contains b box p, contains_from_within b p);
}
