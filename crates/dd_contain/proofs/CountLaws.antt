-- A torus with periods of at most p has no more positions than the torus with the period p along each axis, and so no more than `largest_region`.
use Rattle.std.proofs.{Common.◌≡◌, Common.ℕ, Common.zero, Common.suc, Common.◌*◌, Common.◌^◌, Common.◌≤◌, Common.arith, lemmas.Nat.mul-le}
use Rattle.dd_pattern.specs.{declared.periods.Periods.Periods, Periods.AreWithin, Periods.periods_volume as tile_volume}
use Rattle.dd_formula.specs.Counts.{largest_region}
use Rattle.dd_boxes.specs.lemmas.SizeLaws.{first_power, second_power, third_power}

line_up : (x y z p : ℕ) → x ≤ p → y ≡ 1 → z ≡ 1 → z * y * x ≤ p
line_up x y z p on_x on_y on_z = rw (on_y, on_z) (omega (arith, on_x))

plane_up : (x y z p : ℕ) → x ≤ p → y ≤ p → z ≡ 1 → z * y * x ≤ p * p
plane_up x y z p on_x on_y on_z = rw on_z (let one : 1 * y ≤ p = omega (arith, on_y) in mul-le (1 * y) x p p one on_x)

space_up : (x y z p : ℕ) → x ≤ p → y ≤ p → z ≤ p → z * y * x ≤ p * p * p
space_up x y z p on_x on_y on_z = mul-le (z * y) x (p * p) p (mul-le z y p p on_z on_y) on_x

torus_positions : (d p : ℕ) (q : Periods) → 1 ≤ d → d ≤ 3 → AreWithin d p q → tile_volume q ≤ p ^ d
torus_positions zero p q low high within = absurd (omega arith)
torus_positions (suc zero) p q low high within =
    rw (first_power p) (line_up q.x q.y q.z p within.x_most (within.periods.y_unused (omega arith)) (within.periods.z_unused (omega arith)))
torus_positions (suc (suc zero)) p q low high within =
    rw (second_power p) (plane_up q.x q.y q.z p within.x_most within.y_most (within.periods.z_unused (omega arith)))
torus_positions (suc (suc (suc zero))) p q low high within = rw (third_power p) (space_up q.x q.y q.z p within.x_most within.y_most within.z_most)
torus_positions (suc (suc (suc (suc d)))) p q low high within = absurd (omega arith)

pub torus_up : (d n p : ℕ) (q : Periods) → 1 ≤ d → d ≤ 3 → AreWithin d p q → tile_volume q ≤ largest_region d n p
torus_up d n p q low high within = let up = torus_positions d p q low high within in omega (arith, up)
