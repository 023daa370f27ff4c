-- The order of exact fractions, by cross products: n / d is at most m / e exactly when n · e is at most m · d.
use Rattle.std.specs.{declared.cmp.Ordering.Ordering, Ordering.int_cmp}
use lib.IntN.{pos, ◌*ℤ◌}
use lib.Signed.{◌≤ℤ◌, ◌<ℤ◌}
use Rattle.dd_fraction.specs.Exact.{Exact, den_of}

abbrev pub exact_cmp : Exact → Exact → Ordering
exact_cmp a b = int_cmp (a.num *ℤ pos (den_of b)) (b.num *ℤ pos (den_of a))

pub record IsAtMost (a b : Exact) : Type 0 where
  pub cross : (a.num *ℤ pos (den_of b)) ≤ℤ (b.num *ℤ pos (den_of a))

pub record IsBelow (a b : Exact) : Type 0 where
  pub cross : (a.num *ℤ pos (den_of b)) <ℤ (b.num *ℤ pos (den_of a))

-- at least 0
pub record IsNonneg (a : Exact) : Type 0 where
  pub sign : pos 0 ≤ℤ a.num

-- greater than 0
pub record IsPositive (a : Exact) : Type 0 where
  pub sign : pos 0 <ℤ a.num
