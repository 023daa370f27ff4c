-- A strip has at most one least density: of two configurations of least density, neither has a lower density than the other, and two equal fractions
-- in lowest terms have the same numerator and the same denominator.
use Rattle.std.proofs.Common.{◌≡◌, ℕ, ◌*◌, ◌<◌, ◌≤◌, List, ap, arith}
use Rattle.std.proofs.Math.Nat.{le_of_mul-le-mul_right, mul-le-mul_left, mul-le-mul_right}
use Rattle.std.specs.Int.{IsGcd}
use Rattle.dd_pattern.specs.{declared.periods.Periods.Periods, Periods.ArePeriodsIn, Periods.periods_volume}
use Rattle.dd_formula.specs.LocalRule.{LocalRule}
use Rattle.dd_strip.specs.declared.strip.Strip.{Strip}
use Rattle.dd_strips.specs.Strips.{IsLeastDensity, tile_weight}
use Rattle.dd_fraction.specs.lemmas.Divisors.{same_fraction}

-- if a configuration has the density a / b, and p / q is a lower bound for its density, then p / q is at most a / b
no_more : (p q a b n w : ℕ) → 0 < n → p * n ≤ q * w → a * n ≡ b * w → p * b ≤ a * q
no_more p q a b n w some less is =
    let one : b * (p * n) ≤ b * (q * w) = mul-le-mul_left b less in
    let two : q * (a * n) ≡ q * (b * w) = ap (λ (x : ℕ). q * x) is in
    let three : b * (p * n) ≡ (p * b) * n = omega arith in
    let four : b * (q * w) ≡ q * (b * w) = omega arith in
    let five : q * (a * n) ≡ (a * q) * n = omega arith in
    let all : (p * b) * n ≤ (a * q) * n = omega (arith, one, two, three, four, five) in
    le_of_mul-le-mul_right all some

some_volume : (d : ℕ) (p : Periods) → ArePeriodsIn d p → 0 < periods_volume p
some_volume d p are =
    let one : 1 * 1 ≤ p.z * p.y = both 1 p.z 1 p.y are.z_some are.y_some in
    both 1 (p.z * p.y) 1 p.x one are.x_some
  where
    both : (a b c d : ℕ) → a ≤ b → c ≤ d → a * c ≤ b * d
    both a b c d p q =
        let one : a * c ≤ b * c = mul-le-mul_right c p in
        let two : b * c ≤ b * d = mul-le-mul_left b q in
        omega (arith, one, two)

pub one_density_law : (r : LocalRule) (s : Strip) (ws : List ℕ) (p q a b : ℕ) → IsLeastDensity r s ws p q → IsLeastDensity r s ws a b → IsGcd p q 1 → IsGcd a b 1 → (p ≡ a) × (q ≡ b)
one_density_law r s ws p q a b one other lowest lowest' =
    let n = periods_volume one.some.periods in
    let k = periods_volume other.some.periods in
    let n_some : 0 < n = some_volume one.some.dimension one.some.periods one.lives.tile.periods in
    let k_some : 0 < k = some_volume other.some.dimension other.some.periods other.lives.tile.periods in
    let up : p * b ≤ a * q = no_more p q a b k (tile_weight ws other.some) k_some (one.least other.some other.lives) other.density in
    let down : a * q ≤ p * b = no_more a b p q n (tile_weight ws one.some) n_some (other.least one.some one.lives) one.density in
    same_fraction p q a b one.positive other.positive lowest lowest' (omega (arith, up, down))
