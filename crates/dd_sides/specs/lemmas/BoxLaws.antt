-- Laws of sums over boxes.
use Rattle.std.proofs.Common.{◌≡◌, ℕ, ◌+◌, ◌-◌, ◌*◌, ◌<◌, ◌≤◌, refl, ◌∙◌, arith}
use Rattle.std.proofs.Math.Nat.{mul-le-mul}
use Rattle.std.specs.Prelude.{ℤ, pos, ◌+ℤ◌, ◌-ℤ◌, unsigned_abs}
use Rattle.dd_lattice.specs.{Place.Place, Place.place, Regions.seen_from}
use Rattle.dd_sides.specs.Sums.{Size, axis_sum, box_sum, size_volume}
use Rattle.dd_sides.specs.lemmas.AxisLaws.{axis_moved, axis_same, axis_at_most, axis_add, axis_const, axis_times, axis_most, axis_shifted}

-- p is a position of the box, with the offsets i, j and k from the least corner u
pub record IsAt (s : Size) (u p : Place) : Type 0 where
  pub i : ℕ
  pub j : ℕ
  pub k : ℕ
  pub i_below : i < s.x
  pub j_below : j < s.y
  pub k_below : k < s.z
  pub is : p ≡ place (u.x +ℤ pos i) (u.y +ℤ pos j) (u.z +ℤ pos k)

-- how many positions of the box receive along v from inside it
abbrev pub kept : Size → Place → ℕ
kept s v = (s.z - unsigned_abs v.z) * ((s.y - unsigned_abs v.y) * (s.x - unsigned_abs v.x))

pub box_moved : (s : Size) (u v : Place) (f : Place → ℕ) → box_sum s u (λ p. f (seen_from v p)) ≡ box_sum s (seen_from v u) f
box_moved s u v f =
    axis_same s.z u.z _ _ (λ z.
    axis_same s.y u.y _ _ (λ y. axis_moved s.x u.x v.x (λ x. f (place x (y -ℤ v.y) (z -ℤ v.z))))
    ∙ axis_moved s.y u.y v.y (λ y. axis_sum s.x (u.x -ℤ v.x) (λ x. f (place x y (z -ℤ v.z)))))
    ∙ axis_moved s.z u.z v.z (λ z. axis_sum s.y (u.y -ℤ v.y) (λ y. axis_sum s.x (u.x -ℤ v.x) (λ x. f (place x y z))))

pub box_same : (s : Size) (u : Place) (f g : Place → ℕ) → ((p : Place) → f p ≡ g p) → box_sum s u f ≡ box_sum s u g
box_same s u f g h = axis_same s.z u.z _ _ (λ z. axis_same s.y u.y _ _ (λ y. axis_same s.x u.x _ _ (λ x. h (place x y z))))

pub box_at_most : (s : Size) (u : Place) (f g : Place → ℕ) → ((p : Place) → IsAt s u p → f p ≤ g p) → box_sum s u f ≤ box_sum s u g
box_at_most s u f g le =
    axis_at_most s.z u.z _ _ (λ k k_low. axis_at_most s.y u.y _ _ (λ j j_low. axis_at_most s.x u.x _ _ (λ i i_low.
    le (place (u.x +ℤ pos i) (u.y +ℤ pos j) (u.z +ℤ pos k)) (record { i = i; j = j; k = k; i_below = i_low; j_below = j_low; k_below = k_low; is = refl }))))

pub box_add : (s : Size) (u : Place) (f g : Place → ℕ) → box_sum s u (λ p. f p + g p) ≡ box_sum s u f + box_sum s u g
box_add s u f g =
    axis_same s.z u.z _ _ (λ z. axis_same s.y u.y _ _ (λ y. axis_add s.x u.x (λ x. f (place x y z)) (λ x. g (place x y z)))
    ∙ axis_add s.y u.y (λ y. axis_sum s.x u.x (λ x. f (place x y z))) (λ y. axis_sum s.x u.x (λ x. g (place x y z))))
    ∙ axis_add s.z u.z (λ z. axis_sum s.y u.y (λ y. axis_sum s.x u.x (λ x. f (place x y z)))) (λ z. axis_sum s.y u.y (λ y. axis_sum s.x u.x (λ x. g (place x y z))))

pub box_times : (s : Size) (u : Place) (q : ℕ) (f : Place → ℕ) → box_sum s u (λ p. q * f p) ≡ q * box_sum s u f
box_times s u q f =
    axis_same s.z u.z _ _ (λ z. axis_same s.y u.y _ _ (λ y. axis_times s.x u.x q (λ x. f (place x y z)))
    ∙ axis_times s.y u.y q (λ y. axis_sum s.x u.x (λ x. f (place x y z))))
    ∙ axis_times s.z u.z q (λ z. axis_sum s.y u.y (λ y. axis_sum s.x u.x (λ x. f (place x y z))))

turned : (a b c k : ℕ) → c * (b * (a * k)) ≡ (a * (b * c)) * k
turned a b c k = omega arith

pub box_const : (s : Size) (u : Place) (k : ℕ) → box_sum s u (λ _. k) ≡ size_volume s * k
box_const s u k =
    axis_same s.z u.z _ _ (λ z. axis_same s.y u.y _ _ (λ y. axis_const s.x u.x k) ∙ axis_const s.y u.y (s.x * k))
    ∙ (axis_const s.z u.z (s.y * (s.x * k)) ∙ turned s.x s.y s.z k)

regroup : (a b c m : ℕ) → a * (b * (c * m)) ≡ m * (a * (b * c))
regroup a b c m = omega arith

regroup_volume : (a b c m : ℕ) → a * (b * (c * m)) ≡ m * (c * (b * a))
regroup_volume a b c m = omega arith

-- if f is at most m everywhere, the sum of f over the box moved by -v is at most the sum over the box, plus m for each position of the box that
-- receives along v from outside it
pub box_shifted : (s : Size) (u v : Place) (f : Place → ℕ) (m : ℕ) → ((p : Place) → f p ≤ m) →
    box_sum s (seen_from v u) f + m * kept s v ≤ box_sum s u f + m * size_volume s
box_shifted s u v f m up =
    let X = λ (a z y : ℤ). axis_sum s.x a (λ x. f (place x y z)) in
    let Y = λ (a b z : ℤ). axis_sum s.y b (λ y. axis_sum s.x a (λ x. f (place x y z))) in
    let x_up : (a z y : ℤ) → X a z y ≤ s.x * m = λ a z y. axis_most s.x a (λ x. f (place x y z)) m (λ x. up (place x y z)) in
    let y_up : (a b z : ℤ) → Y a b z ≤ s.y * (s.x * m) = λ a b z. axis_most s.y b (X a z) (s.x * m) (x_up a z) in
    let on_x : (z y : ℤ) → X (u.x -ℤ v.x) z y + (s.x - unsigned_abs v.x) * m ≤ X u.x z y + s.x * m = λ z y.
    axis_shifted s.x u.x v.x (λ x. f (place x y z)) (λ x. f (place x y z)) m m (λ x. omega arith) (λ x. up (place x y z)) in
    let on_y : (z : ℤ) → Y (u.x -ℤ v.x) (u.y -ℤ v.y) z + (s.y - unsigned_abs v.y) * ((s.x - unsigned_abs v.x) * m) ≤ Y u.x u.y z + s.y * (s.x * m) = λ z.
    axis_shifted s.y u.y v.y (X (u.x -ℤ v.x) z) (X u.x z) ((s.x - unsigned_abs v.x) * m) (s.x * m) (on_x z) (x_up (u.x -ℤ v.x) z) in
    let on_z = axis_shifted s.z u.z v.z (Y (u.x -ℤ v.x) (u.y -ℤ v.y)) (Y u.x u.y) ((s.y - unsigned_abs v.y) * ((s.x - unsigned_abs v.x) * m)) (s.y * (s.x * m)) on_y (y_up (u.x -ℤ v.x) (u.y -ℤ v.y)) in
    rw (← regroup (s.z - unsigned_abs v.z) (s.y - unsigned_abs v.y) (s.x - unsigned_abs v.x) m, ← regroup_volume s.z s.y s.x m) on_z

turned_volume : (a b c : ℕ) → a * (b * c) ≡ c * (b * a)
turned_volume a b c = omega arith

pub kept_at_most : (s : Size) (v : Place) → kept s v ≤ size_volume s
kept_at_most s v =
    rw (turned_volume s.x s.y s.z) (mul-le-mul (omega arith) (mul-le-mul (omega arith) (omega arith)))
