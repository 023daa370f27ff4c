-- Fractions written over their least common denominator, as in a bound. The fractions are at least 0. A number can be printed
-- if it is at most `most_number`.
use Rattle.std.specs.Prelude.{ℕ, ◌*◌, ◌/◌, ◌<◌, ◌≤◌, ◌≡◌, ◌⊎◌, pos, List, ◌++◌, map, drop, unsigned_abs, Option, Some, None, cond, nat_le}
use Rattle.std.specs.List.{fold, All, Any}
use Rattle.dd_values.specs.Bounds.{most_number}
use Rattle.dd_fraction.specs.{Divisor.greatest_common, Exact.Exact, Exact.den_of}
use Rattle.dd_discharge.specs.declared.bound.Bound.{Bound}

-- the least common multiple of a and b
abbrev pub least_common : ℕ → ℕ → ℕ
least_common a b = a / greatest_common a b * b

-- the least common multiple of n and the denominator of one more fraction
abbrev pub joined_denominator : ℕ → Exact → ℕ
joined_denominator n a = least_common n (den_of a)

-- the least common denominator of the fractions
abbrev pub common_denominator : List Exact → ℕ
common_denominator xs = fold joined_denominator 1 xs

-- the numerator, over the denominator n, of a fraction that is at least 0 and whose denominator divides n
abbrev pub numerator_over : ℕ → Exact → ℕ
numerator_over n a = unsigned_abs a.num * (n / den_of a)

-- a number, if it can be printed
abbrev pub printed : ℕ → Option ℕ
printed n = cond (nat_le n most_number) (Some n) None

-- the least common denominator, and each numerator over it, can be printed
pub record ArePrinted (xs : List Exact) : Type 0 where
  pub denominator : common_denominator xs ≤ most_number
  pub numerators : All (λ a. numerator_over (common_denominator xs) a ≤ most_number) xs

-- the least common denominator, or some numerator over it, can't be printed
abbrev pub HasUnprinted : List Exact → Type 0
HasUnprinted xs = (most_number < common_denominator xs) ⊎ Any (λ a. most_number < numerator_over (common_denominator xs) a) xs

-- b is the bound with this value, with the columns after the first as amounts, and with these duals. The amounts and the duals
-- are over the least common denominator of the columns and the duals. This denominator, and each numerator over it, can be
-- printed.
pub record IsPrintedAs (value : Exact) (columns duals : List Exact) (b : Bound) : Type 0 where
  pub printed : ArePrinted (columns ++ duals)
  pub numerator_is : pos b.numerator ≡ value.num
  pub denominator_is : b.denominator ≡ value.den
  pub common_is : b.common ≡ common_denominator (columns ++ duals)
  pub amounts_are : b.amounts ≡ map (numerator_over b.common) (drop 1 columns)
  pub duals_are : b.duals ≡ map (numerator_over b.common) duals
