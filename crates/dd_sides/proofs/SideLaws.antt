-- Side(n): how many positions it has, and how many of them receive along a vector from inside it and from outside it.
use Rattle.std.proofs.Common.{◌≡◌, ℕ, zero, suc, ◌-◌, ◌*◌, ◌^◌, ◌≤◌, Bool, true, false, refl, ap, ◌∙◌, arith}
use Rattle.std.proofs.lemmas.Bool.{and_parts, lt-ltb, Decides.Decides-int_eq}
use Rattle.std.specs.{Prelude.ℤ, Prelude.pos, Prelude.unsigned_abs, Prelude.◌||◌, Prelude.nat_lt, Ordering.int_eq}
use Rattle.dd_lattice.specs.{Place.Place, Boxes.is_active}
use Rattle.dd_boxes.specs.lemmas.SizeLaws.{first_power, second_power, third_power}
use Rattle.dd_expansion.specs.Placed.{is_flat}
use Rattle.dd_sides.specs.{Sums.box_sum, Sums.size_volume, Sums.from_outside, Sides.side_length, Sides.side}
use Rattle.dd_sides.specs.{Boundaries.left_on, Boundaries.inner_count, Boundaries.outer_count, lemmas.BoxLaws.kept}
use Rattle.dd_sides.proofs.CountLaws.{outside_count}

-- Side(n) has n^d positions: d of the axes are active, and d is 1, 2 or 3
pub side_volume : (d n : ℕ) → 1 ≤ d → d ≤ 3 → size_volume (side d n) ≡ n ^ d
side_volume zero n low high = absurd (omega arith)
side_volume (suc zero) n low high = rw (first_power n) (omega arith)
side_volume (suc (suc zero)) n low high = rw (second_power n) (omega arith)
side_volume (suc (suc (suc zero))) n low high = rw (third_power n) (omega arith)
side_volume (suc (suc (suc (suc d)))) n low high = absurd (omega arith)

left_is : (active : Bool) (n : ℕ) (c : ℤ) → (active || int_eq c (pos 0)) ≡ true → side_length active n - unsigned_abs c ≡ left_on active n c
left_is true n c h = refl
left_is false n c h = let zero_there : c ≡ pos 0 = (Decides-int_eq c (pos 0)).0 h in rw zero_there refl

pub first_active : (d : ℕ) → 1 ≤ d → is_active d 0 ≡ true
first_active zero low = absurd (omega arith)
first_active (suc d) low = lt-ltb 0 (suc d) (omega arith)

left_first : (active : Bool) (n : ℕ) (c : ℤ) → active ≡ true → side_length active n - unsigned_abs c ≡ left_on active n c
left_first true n c h = refl
left_first false n c h = absurd (cc)

turned : (a b c p q r : ℕ) → a ≡ p → b ≡ q → c ≡ r → c * (b * a) ≡ p * (q * r)
turned a b c p q r e f g = rw (e, f, g) (omega arith)

pub kept_is : (d n : ℕ) (v : Place) → 1 ≤ d → is_flat d v ≡ true → kept (side d n) v ≡ inner_count d n v
kept_is d n v low flat =
    let parts = and_parts (nat_lt 1 d || int_eq v.y (pos 0)) (nat_lt 2 d || int_eq v.z (pos 0)) flat in
    turned _ _ _ _ _ _ (left_first (is_active d 0) n v.x (first_active d low)) (left_is (is_active d 1) n v.y parts.0) (left_is (is_active d 2) n v.z parts.1)

pub side_count : (d n : ℕ) (u v : Place) → 1 ≤ d → d ≤ 3 → is_flat d v ≡ true → box_sum (side d n) u (from_outside (side d n) u v) ≡ outer_count d n v
side_count d n u v low high flat =
    let a = outside_count (side d n) u v in
    let b = side_volume d n low high in
    let c = kept_is d n v low flat in
    omega (arith, a, b, c)
