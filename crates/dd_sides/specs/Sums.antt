-- Sums over the positions of a box, and which of its positions receive from outside it.
use Rattle.std.specs.Prelude.{ℕ, zero, suc, ◌+◌, ◌*◌, ℤ, pos, ◌+ℤ◌, ◌-ℤ◌, Bool, ◌&&◌, cond, int_le, int_lt}
use Rattle.dd_lattice.specs.{Place.Place, Place.place, Regions.seen_from}

-- how many coordinates a box has on each axis
pub record Size : Type 0 where
  pub x : ℕ
  pub y : ℕ
  pub z : ℕ

abbrev pub box_sizes : ℕ → ℕ → ℕ → Size
box_sizes x y z = record { x = x; y = y; z = z }

-- f a + f (a + 1) + .. + f (a + n - 1)
abbrev pub axis_sum : ℕ → ℤ → (ℤ → ℕ) → ℕ
axis_sum zero a f = 0
axis_sum (suc n) a f = axis_sum n a f + f (a +ℤ pos n)

-- the sum of f over the positions of the box whose least corner is u
abbrev pub box_sum : Size → Place → (Place → ℕ) → ℕ
box_sum s u f = axis_sum s.z u.z (λ z. axis_sum s.y u.y (λ y. axis_sum s.x u.x (λ x. f (place x y z))))

-- the number of positions of a box
abbrev pub size_volume : Size → ℕ
size_volume s = s.x * (s.y * s.z)

-- c is one of the n coordinates from a to a + n - 1
abbrev pub is_on : ℕ → ℤ → ℤ → Bool
is_on n a c = int_le a c && int_lt c (a +ℤ pos n)

-- p is a position of the box whose least corner is u
abbrev pub is_in_box : Size → Place → Place → Bool
is_in_box s u p = is_on s.x u.x p.x && is_on s.y u.y p.y && is_on s.z u.z p.z

-- 1 if p receives along v from outside the box, that is, if p - v lies outside it; otherwise 0
abbrev pub from_outside : Size → Place → Place → Place → ℕ
from_outside s u v p = cond (is_in_box s u (seen_from v p)) 0 1
