-- How many positions of a box receive along a vector from outside it.
use Rattle.std.proofs.Common.{◌≡◌, ℕ, zero, suc, ◌+◌, ◌-◌, ◌*◌, ◌<◌, Bool, true, false, cond, refl, ap, ◌∙◌, inl, inr, arith}
use Rattle.std.proofs.lemmas.{Int.ints, Bool.cases_lt}
use Rattle.std.specs.Prelude.{ℤ, pos, negsuc, ◌+ℤ◌, ◌-ℤ◌, unsigned_abs, ◌&&◌}
use Rattle.dd_lattice.specs.{Place.Place, Regions.seen_from}
use Rattle.dd_sides.specs.Sums.{Size, axis_sum, box_sum, size_volume, is_on, is_in_box, from_outside}
use Rattle.dd_sides.specs.lemmas.AxisLaws.{axis_split, axis_same}
use Rattle.dd_sides.specs.lemmas.BoxLaws.{kept, box_add, box_same, box_const}

axis_at : (n : ℕ) (a : ℤ) (f : ℤ → ℕ) (k : ℕ) → ((i : ℕ) → i < n → f (a +ℤ pos i) ≡ k) → axis_sum n a f ≡ n * k
axis_at zero a f k h = omega arith
axis_at (suc n) a f k h = omega (arith, h n (omega arith), axis_at n a f k (λ i low. h i (omega arith)))

on_true : (n i d : ℕ) (a c : ℤ) → c ≡ (a +ℤ pos d) +ℤ pos i → d + i < n → is_on n a c ≡ true
on_true n i d a c e h = grind (arith, ints)

on_below : (n : ℕ) (a c : ℤ) (d : ℕ) → c +ℤ pos (suc d) ≡ a → is_on n a c ≡ false
on_below n a c d e = grind (arith, ints)

on_above : (n : ℕ) (a c : ℤ) (d : ℕ) → c ≡ a +ℤ pos (n + d) → is_on n a c ≡ false
on_above n a c d e = grind (arith, ints)

picked : (b c : Bool) (k : ℕ) → b ≡ c → cond b k 0 ≡ cond c k 0
picked b c k e = ap (λ (x : Bool). cond x k 0) e

none_on : (n m : ℕ) (b : ℤ) (a s : ℤ) (k : ℕ) → ((i : ℕ) → i < m → is_on n a ((b +ℤ pos i) -ℤ s) ≡ false) → axis_sum m b (λ c. cond (is_on n a (c -ℤ s)) k 0) ≡ 0
none_on n m b a s k h = axis_at m b _ 0 (λ i low. picked (is_on n a ((b +ℤ pos i) -ℤ s)) false k (h i low)) ∙ omega arith

all_on : (n m : ℕ) (b : ℤ) (a s : ℤ) (k : ℕ) → ((i : ℕ) → i < m → is_on n a ((b +ℤ pos i) -ℤ s) ≡ true) → axis_sum m b (λ c. cond (is_on n a (c -ℤ s)) k 0) ≡ m * k
all_on n m b a s k h = axis_at m b _ k (λ i low. picked (is_on n a ((b +ℤ pos i) -ℤ s)) true k (h i low))

axis_count : (n : ℕ) (a s : ℤ) (k : ℕ) → axis_sum n a (λ c. cond (is_on n a (c -ℤ s)) k 0) ≡ (n - unsigned_abs s) * k
axis_count n a (pos d) k = elim (cases_lt d n) [
  | inr past ↦
      let z : n - d ≡ 0 = omega arith in
      none_on n n a a (pos d) k (λ i low. on_below n a _ (d - suc i) (omega (arith, ints))) ∙ rw z (omega arith)
  | inl low ↦
      let c : n ≡ d + (n - d) = omega arith in
      ap (λ (m : ℕ). axis_sum m a (λ c. cond (is_on n a (c -ℤ pos d)) k 0)) c
      ∙ (axis_split d (n - d) a (λ c. cond (is_on n a (c -ℤ pos d)) k 0)
      ∙ (let e = none_on n d a a (pos d) k (λ i i_low. on_below n a _ (d - suc i) (omega (arith, ints))) in
      let f = all_on n (n - d) (a +ℤ pos d) a (pos d) k (λ i i_low. on_true n i 0 a _ (omega (arith, ints)) (omega arith)) in
      omega (arith, e, f)))
]
axis_count n a (negsuc d) k = elim (cases_lt (suc d) n) [
  | inr past ↦
      let z : n - suc d ≡ 0 = omega arith in
      none_on n n a a (negsuc d) k (λ i low. on_above n a _ (i + suc d - n) (omega (arith, ints))) ∙ rw z (omega arith)
  | inl low ↦
      let c : n ≡ (n - suc d) + suc d = omega arith in
      ap (λ (m : ℕ). axis_sum m a (λ c. cond (is_on n a (c -ℤ negsuc d)) k 0)) c
      ∙ (axis_split (n - suc d) (suc d) a (λ c. cond (is_on n a (c -ℤ negsuc d)) k 0)
      ∙ (let e = none_on n (suc d) (a +ℤ pos (n - suc d)) a (negsuc d) k (λ i i_low. on_above n a _ i (omega (arith, ints))) in
      let f = all_on n (n - suc d) a a (negsuc d) k (λ i i_low. on_true n i (suc d) a _ (omega (arith, ints)) (omega arith)) in
      omega (arith, e, f)))
]

pub axis_cond : (n : ℕ) (a : ℤ) (b : Bool) (f : ℤ → ℕ) → axis_sum n a (λ c. cond b (f c) 0) ≡ cond b (axis_sum n a f) 0
axis_cond n a true f = refl
axis_cond n a false f = axis_at n a (λ _. 0) 0 (λ i low. refl) ∙ omega arith

pub each_axis : (p q r : Bool) → ◌≡◌ {A = ℕ} (cond ((p && q) && r) 1 0) (cond r (cond q (cond p 1 0) 0) 0)
each_axis true true true = refl
each_axis true true false = refl
each_axis true false true = refl
each_axis true false false = refl
each_axis false q true = by_second q
  where
    by_second : (q : Bool) → ◌≡◌ {A = ℕ} 0 (cond q 0 0)
    by_second true = refl
    by_second false = refl
each_axis false q false = refl

box_count : (s : Size) (u v : Place) → box_sum s u (λ p. cond (is_in_box s u (seen_from v p)) 1 0) ≡ kept s v
box_count s u v =
    axis_same s.z u.z _ _ (λ z.
    axis_same s.y u.y _ _ (λ y.
    axis_same s.x u.x _ _ (λ x. each_axis (is_on s.x u.x (x -ℤ v.x)) (is_on s.y u.y (y -ℤ v.y)) (is_on s.z u.z (z -ℤ v.z)))
    ∙ (axis_cond s.x u.x (is_on s.z u.z (z -ℤ v.z)) (λ x. cond (is_on s.y u.y (y -ℤ v.y)) (cond (is_on s.x u.x (x -ℤ v.x)) 1 0) 0)
    ∙ ap (λ (m : ℕ). cond (is_on s.z u.z (z -ℤ v.z)) m 0)
    (axis_cond s.x u.x (is_on s.y u.y (y -ℤ v.y)) (λ x. cond (is_on s.x u.x (x -ℤ v.x)) 1 0)
    ∙ ap (λ (m : ℕ). cond (is_on s.y u.y (y -ℤ v.y)) m 0) (axis_count s.x u.x v.x 1))))
    ∙ (axis_cond s.y u.y (is_on s.z u.z (z -ℤ v.z)) (λ y. cond (is_on s.y u.y (y -ℤ v.y)) ((s.x - unsigned_abs v.x) * 1) 0)
    ∙ ap (λ (m : ℕ). cond (is_on s.z u.z (z -ℤ v.z)) m 0) (axis_count s.y u.y v.y ((s.x - unsigned_abs v.x) * 1))))
    ∙ (axis_count s.z u.z v.z ((s.y - unsigned_abs v.y) * ((s.x - unsigned_abs v.x) * 1)) ∙ omega arith)

one_of : (b : Bool) → ◌≡◌ {A = ℕ} (cond b 0 1 + cond b 1 0) 1
one_of true = refl
one_of false = refl

pub outside_count : (s : Size) (u v : Place) → box_sum s u (from_outside s u v) + kept s v ≡ size_volume s
outside_count s u v =
    let a = box_add s u (from_outside s u v) (λ p. cond (is_in_box s u (seen_from v p)) 1 0) in
    let b = box_same s u (λ p. from_outside s u v p + cond (is_in_box s u (seen_from v p)) 1 0) (λ _. 1) (λ p. one_of (is_in_box s u (seen_from v p))) in
    let c = box_const s u 1 in
    let d = box_count s u v in
    omega (arith, a, b, c, d)
