-- The list of the cells of a box of positions: which cell has which index, and that the list ascends in cell order.
use Rattle.std.proofs.Common.{◌≡◌, ℕ, zero, suc, ◌+◌, ◌*◌, ◌/◌, ◌%◌, ◌<◌, ◌≤◌, [], ◌∷◌, ◌++◌, map, length, get_or, refl, ap, sym, subst, ◌∙◌, arith, Some, inl, inr, length-append}
use Rattle.std.proofs.lemmas.Bool.{cases_order, cases_lt}
use Rattle.std.proofs.lemmas.Nat.{mul-add-lt, div-mul-add, mod-mul-add, mod_below, div_below, div-add-mod'}
use Rattle.std.proofs.lemmas.List.{append-nil, map-append, Concat.flat_map-append}
use Rattle.std.proofs.lemmas.List.Elements.{All-cons, All-nil, All-map, recursion_from_All}
use Rattle.std.proofs.{lemmas.List.FromFn.length-map-range_with_len, lemmas.Map.Keys.Less-from_sorted, Math.ListN.get_or-append}
use Rattle.std.proofs.Math.Seq.{get_or-append_seam}
use Rattle.std.specs.{Prelude.slice_get, List.All, List.range_with_len, List.Sorted.IsStrictlySortedBy}
use Rattle.std.specs.{Ordering.nat_cmp, Ordering.ordering_then, Cmp.int_cmp_is, Cmp.nat_cmp_is, declared.cmp.Ordering.Ordering}
use Rattle.std.specs.declared.cmp.Ordering.TheVariants.{Less, Equal}
use Rattle.dd_lattice.specs.{Place.Place, Cells.cell, Order.place_cmp, Order.cell_cmp}
use Rattle.dd_lattice.specs.Boxes.{Bounds, IsAtMostOnEachAxis, IsWithin, volume, index_in, place_in, first_positions}
use Rattle.dd_lattice.specs.{declared.position.Cell.Cell, lemmas.BoxLaws.index_below, lemmas.BoxLaws.place_at_index}
use Rattle.dd_lattice.specs.lemmas.PositionLaws.{first_ascending}
use Rattle.dd_boxes.specs.Cells.{cells_on}
use Rattle.dd_problem.specs.{Layouts.nth_cell, Layouts.cells_in, lemmas.Filtered.slice_of_range}

-- what holds for each number from a to a + n - 1 holds for all members of this range
pub All-range : (P : ℕ → Type 0) (n a : ℕ) → ((k : ℕ) → a ≤ k → k < a + n → P k) → All P (range_with_len a n)
All-range P zero a h = All-nil P
All-range P (suc n) a h = All-cons P a (range_with_len (a + 1) n) (h a (omega arith) (omega arith)) (All-range P n (a + 1) (λ k low high. h k (omega arith) (omega arith)))

sorted_range : {K : Type 0} (R : K → K → Ordering) (f : ℕ → K) (n a : ℕ) → ((i j : ℕ) → i < j → j < a + n → R (f i) (f j) ≡ Less) → IsStrictlySortedBy R (map f (range_with_len a n))
unfolding IsStrictlySortedBy
sorted_range R f zero a h = tt
sorted_range R f (suc n) a h = (
  recursion_from_All (λ y. R (f a) y ≡ Less) (map f (range_with_len (a + 1) n))
      (All-map (λ y. R (f a) y ≡ Less) f (range_with_len (a + 1) n) (All-range (λ k. R (f a) (f k) ≡ Less) n (a + 1) (λ k low high. h a k (omega arith) (omega arith)))),
  sorted_range R f n (a + 1) (λ i j less high. h i j less (omega arith)),
)

length-first_of : (b : Bounds) (n : ℕ) → length (first_positions b n) ≡ n
length-first_of b zero = refl
length-first_of b (suc n) = omega (arith, length-first_of b n, length-append (first_positions b n) (place_in b n ∷ []))

-- the positions of a box by their numbers
first_at : (b : Bounds) (n i : ℕ) (d : Place) → i < n → get_or (first_positions b n) i d ≡ place_in b i
first_at b zero i d h = absurd (omega arith)
first_at b (suc n) i d h = elim (cases_lt i n) [
  | inl below ↦ get_or-append (first_positions b n) (place_in b n ∷ []) d i (omega (arith, length-first_of b n)) ∙ first_at b n i d below
  | inr last ↦
      (let same : n ≡ i = omega arith in
      let whole : length (first_positions b n) ≡ i = length-first_of b n ∙ same in
      ap (λ k. get_or (first_positions b n ++ place_in b n ∷ []) k d) (sym whole) ∙ (get_or-append_seam (first_positions b n) (place_in b n) [] d ∙ ap (place_in b) same))
]

place_less : (b : Bounds) → IsAtMostOnEachAxis b.low b.high → (i j : ℕ) → i < j → j < volume b → place_cmp (place_in b i) (place_in b j) ≡ Less
place_less b o i j less high =
    let v = volume b in
    let d = place_in b 0 in
    let up = first_ascending b o v (omega arith) in
    let there = Less-from_sorted place_cmp (first_positions b v) i j d up less (omega (arith, length-first_of b v)) in
    ap (λ p. place_cmp p (place_in b j)) (sym (first_at b v i d (omega arith))) ∙ (ap (place_cmp (get_or (first_positions b v) i d)) (sym (first_at b v j d high)) ∙ there)

place_equal : (p : Place) → place_cmp p p ≡ Equal
place_equal p = rw (sym (int_cmp_is p.z p.z Equal refl), sym (int_cmp_is p.y p.y Equal refl), sym (int_cmp_is p.x p.x Equal refl)) refl

by_place : (o r : Ordering) → o ≡ Less → ordering_then o r ≡ Less
by_place o r h = ap (λ k. ordering_then k r) h

by_node : (o r : Ordering) → o ≡ Equal → r ≡ Less → ordering_then o r ≡ Less
by_node o r h k = ap (λ e. ordering_then e r) h ∙ k

cell_less : (b : Bounds) (m : ℕ) → IsAtMostOnEachAxis b.low b.high → 0 < m → (i j : ℕ) → i < j → j < volume b * m → cell_cmp (nth_cell b m i) (nth_cell b m j) ≡ Less
cell_less b m o some i j less high =
    let i_is : i / m * m + i % m ≡ i = div-add-mod' i m in
    let j_is : j / m * m + j % m ≡ j = div-add-mod' j m in
    let row : j / m < volume b = div_below j m (volume b) some high in
    elim (cases_order (i / m) (j / m)) [
      | inl same ↦
          (let rows = ap (λ k. k * m) same in
          let nodes : i % m < j % m = omega (arith, rows, i_is, j_is) in
          by_node (place_cmp (place_in b (i / m)) (place_in b (j / m))) (nat_cmp (i % m) (j % m))
          (ap (λ k. place_cmp (place_in b (i / m)) (place_in b k)) (sym same) ∙ place_equal (place_in b (i / m))) (sym (nat_cmp_is (i % m) (j % m) Less nodes)))
      | inr (inl before) ↦ by_place (place_cmp (place_in b (i / m)) (place_in b (j / m))) (nat_cmp (i % m) (j % m)) (place_less b o (i / m) (j / m) before row)
      | inr (inr after) ↦ absurd (let past = mul-add-lt (j / m) m (j % m) (i / m) after (mod_below j m some) in omega (arith, past, i_is, j_is))
    ]

pub range_append : (n k a : ℕ) → range_with_len a (n + k) ≡ range_with_len a n ++ range_with_len (a + n) k
range_append zero k a = let e : a + 0 ≡ a = omega arith in let f : 0 + k ≡ k = omega arith in rw (e, f) refl
range_append (suc n) k a =
    let e : suc n + k ≡ suc (n + k) = omega arith in
    let f : a + suc n ≡ a + 1 + n = omega arith in
    rw (e, f) (ap (λ r. a ∷ r) (range_append n k (a + 1)))

row_cells : (b : Bounds) (m v j n : ℕ) → j + n ≤ m → map (nth_cell b m) (range_with_len (v * m + j) n) ≡ map (cell (place_in b v)) (range_with_len j n)
row_cells b m v j zero within = refl
row_cells b m v j (suc n) within =
    let e : v * m + j + 1 ≡ v * m + (j + 1) = omega arith in
    let row = div-mul-add v m j (omega arith) in
    let node = mod-mul-add v m j (omega arith) in
    let first : nth_cell b m (v * m + j) ≡ cell (place_in b v) j = rw (row, node) refl in
    ap (λ c. c ∷ map (nth_cell b m) (range_with_len (v * m + j + 1) n)) first
    ∙ ap (λ cs. cell (place_in b v) j ∷ cs) (ap (λ k. map (nth_cell b m) (range_with_len k n)) e ∙ row_cells b m v (j + 1) n (omega arith))

rows_by_number : (b : Bounds) (m v : ℕ) → cells_on m (first_positions b v) ≡ map (nth_cell b m) (range_with_len 0 (v * m))
rows_by_number b m zero = let none : 0 ≡ 0 * m = omega arith in ap (λ k. map (nth_cell b m) (range_with_len 0 k)) none
rows_by_number b m (suc v) =
    let before = range_with_len 0 (v * m) in
    let row = map (cell (place_in b v)) (range_with_len 0 m) in
    let more : suc v * m ≡ v * m + m = omega arith in
    let from : 0 + v * m ≡ v * m + 0 = omega arith in
    let split : map (nth_cell b m) (range_with_len 0 (suc v * m)) ≡ map (nth_cell b m) before ++ row =
    ap (λ k. map (nth_cell b m) (range_with_len 0 k)) more
    ∙ (ap (map (nth_cell b m)) (range_append (v * m) m 0)
    ∙ (map-append (nth_cell b m) before (range_with_len (0 + v * m) m)
    ∙ ap (λ cs. map (nth_cell b m) before ++ cs) (ap (λ k. map (nth_cell b m) (range_with_len k m)) from ∙ row_cells b m v 0 m (omega arith)))) in
    flat_map-append (λ p. map (cell p) (range_with_len 0 m)) (first_positions b v) (place_in b v ∷ [])
    ∙ (ap (λ cs. cells_on m (first_positions b v) ++ cs) (append-nil row) ∙ (ap (λ cs. cs ++ row) (rows_by_number b m v) ∙ sym split))

-- the cells of a box of positions by their numbers
pub cells_by_number : (b : Bounds) (m : ℕ) → cells_in b m ≡ map (nth_cell b m) (range_with_len 0 (volume b * m))
cells_by_number b m = rows_by_number b m (volume b)

pub cells_ascending : (b : Bounds) (m : ℕ) → IsAtMostOnEachAxis b.low b.high → 0 < m → IsStrictlySortedBy cell_cmp (cells_in b m)
cells_ascending b m o some =
    subst (IsStrictlySortedBy cell_cmp) (sym (cells_by_number b m)) (sorted_range cell_cmp (nth_cell b m) (volume b * m) 0 (λ i j less high. cell_less b m o some i j less (omega arith)))

pub length-cells_in : (b : Bounds) (m : ℕ) → length (cells_in b m) ≡ volume b * m
length-cells_in b m = ap length (cells_by_number b m) ∙ length-map-range_with_len (nth_cell b m) 0 (volume b * m)

-- the item of the list at index k is the cell with the number k
pub cell_at_number : (b : Bounds) (m k : ℕ) → k < volume b * m → slice_get (cells_in b m) k ≡ Some (nth_cell b m k)
cell_at_number b m k below = ap (λ cs. slice_get cs k) (cells_by_number b m) ∙ slice_of_range (nth_cell b m) (volume b * m) k below

-- a cell of the box stands at its number
pub cell_there : (b : Bounds) (m : ℕ) (c : Cell) → IsWithin b c.position → c.node < m → slice_get (cells_in b m) (index_in b c.position * m + c.node) ≡ Some c
cell_there b m c within node =
    let low = mul-add-lt (index_in b c.position) m c.node (volume b) (index_below b c.position within) node in
    cell_at_number b m (index_in b c.position * m + c.node) (omega (arith, low))
    ∙ rw (div-mul-add (index_in b c.position) m c.node node, mod-mul-add (index_in b c.position) m c.node node, place_at_index b c.position within) refl

pub cells_nodes : (b : Bounds) (m : ℕ) → 0 < m → All (λ (c : Cell). c.node < m) (cells_in b m)
cells_nodes b m some =
    subst (All (λ (c : Cell). c.node < m)) (sym (cells_by_number b m))
    (All-map (λ (c : Cell). c.node < m) (nth_cell b m) (range_with_len 0 (volume b * m)) (All-range (λ k. k % m < m) (volume b * m) 0 (λ k low high. mod_below k m some)))
