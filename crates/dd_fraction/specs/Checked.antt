-- Sums, products and quotients whose intermediate numbers all fit. A number fits, or is bounded, if it is at most 2^127 - 1 in absolute value. A
-- cross product of two fractions is the numerator of one times the denominator of the other.
use Rattle.std.specs.Prelude.{◌≡◌, ℕ, suc, ◌*◌, ◌<◌, ◌≤◌, ◌^◌, Bool, not, ◌&&◌, Option, Some, None, cond}
use Rattle.std.specs.{Bool.nat_eq, Bool.nat_lt, Int.RustNames.unsigned_abs}
use lib.IntN.{ℤ, pos, negsuc, neg_ℤ, ◌+ℤ◌, ◌*ℤ◌}
use Rattle.dd_fraction.specs.{Divisor.greatest_common, Exact.Exact, Exact.plus, Exact.times, Exact.minus, Exact.inverse, Exact.lowest}

-- whether a number is at most 2^127 - 1 in absolute value
abbrev pub is_bounded : ℤ → Bool
is_bounded z = nat_lt (unsigned_abs z) (2 ^ 127)

-- the number, if it is bounded
abbrev pub bounded : ℤ → Option ℤ
bounded z = cond (is_bounded z) (Some z) None

-- the natural number, if it is bounded
abbrev pub bounded_size : ℕ → Option ℕ
bounded_size n = cond (nat_lt n (2 ^ 127)) (Some n) None

-- a fraction in lowest terms whose numerator and denominator are bounded
pub record IsFraction (a : Exact) : Type 0 where
  pub above : 0 < a.den
  pub below : a.den < 2 ^ 127
  pub bounded : unsigned_abs a.num < 2 ^ 127
  pub coprime : greatest_common (unsigned_abs a.num) a.den ≡ 1

-- bounds that hold for each fraction whose numerator and denominator fit in 16 bits
pub record IsSmall (a : Exact) : Type 0 where
  pub above : 0 < a.den
  pub below : a.den < 2 ^ 16
  pub bounded : unsigned_abs a.num ≤ 2 ^ 15

-- whether the product of the numerators and that of the denominators fit, before the result is reduced to lowest terms
abbrev pub does_product_fit : Exact → Exact → Bool
does_product_fit a b = is_bounded (a.num *ℤ b.num) && is_bounded (pos (a.den * b.den))

-- the product, if its intermediate numbers fit
abbrev pub checked_product : Exact → Exact → Option Exact
checked_product a b = cond (does_product_fit a b) (Some (times a b)) None

-- the quotient of a and b, as the product of a and 1 / b, if its intermediate numbers fit
abbrev pub checked_quotient : Exact → Exact → Option Exact
checked_quotient a b = checked_product a (inverse b)

-- whether the two cross products, their sum, and the product of the denominators fit
abbrev pub does_sum_fit : Exact → Exact → Bool
does_sum_fit a b =
    is_bounded (a.num *ℤ pos b.den)
    && (is_bounded (b.num *ℤ pos a.den)
    && (is_bounded (a.num *ℤ pos b.den +ℤ b.num *ℤ pos a.den) && is_bounded (pos (a.den * b.den))))

-- the sum, if its intermediate numbers fit
abbrev pub checked_sum : Exact → Exact → Option Exact
checked_sum a b = cond (does_sum_fit a b) (Some (plus a b)) None

-- whether the intermediate numbers of a - q · b fit: those of the product, and those of the difference
abbrev pub does_less_product_fit : Exact → Exact → Exact → Bool
does_less_product_fit a q b = does_product_fit q b && does_sum_fit a (minus (times q b))

-- a - q · b, if the intermediate numbers fit
abbrev pub checked_less_product : Exact → Exact → Exact → Option Exact
checked_less_product a q b = cond (does_less_product_fit a q b) (Some (plus a (minus (times q b)))) None

-- n over d in lowest terms, with the sign in the numerator
abbrev pub signed_over : ℤ → ℤ → Exact
signed_over n (pos d) = lowest n d
signed_over n (negsuc d) = lowest (neg_ℤ n) (suc d)

-- whether d is not 0, and n and d are bounded
abbrev pub does_pair_fit : ℤ → ℤ → Bool
does_pair_fit n d = not (nat_eq (unsigned_abs d) 0) && (is_bounded n && is_bounded d)

-- n over d in lowest terms, if d is not 0 and both are bounded
abbrev pub fraction_of : ℤ → ℤ → Option Exact
fraction_of n d = cond (does_pair_fit n d) (Some (signed_over n d)) None
