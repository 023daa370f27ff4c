-- The greatest common divisor, and coprime numbers.
use Rattle.std.proofs.Common.{◌≡◌, ℕ, zero, suc, ◌+◌, ◌*◌, ◌/◌, ◌%◌, ◌<◌, ◌≤◌, refl, sym, ap, subst, ◌∙◌, arith}
use Rattle.std.proofs.lemmas.Nat.{mod_below, mod-mul-add, div-add-mod'}
use Rattle.std.proofs.lemmas.Nat.Gcd.{IsGcd-from_zero, IsGcd-from_mod, same_from_IsGcd, dvd-zero, dvd_antisymm, le_of_dvd}
use Rattle.std.proofs.Math.Nat.{mul-le-mul_right, div-mul_cancel, eq_of_mul-eq-mul_right}
use Rattle.std.specs.Int.{IsGcd}
use Rattle.dd_fraction.specs.Divisor.{common_within, greatest_common}
use Rattle.dd_values.specs.lemmas.Numbers.{part_above}

pub mod-scaled : (a b k : ℕ) → 0 < k → 0 < b → (a * k) % (b * k) ≡ a % b * k
mod-scaled a b k z p =
    let r : a % b < b = mod_below a b p in
    let below : a % b * k < b * k = omega (arith, mul-le-mul_right k r) in
    let split : a / b * (b * k) + a % b * k ≡ a * k = omega (arith, ap (λ (x : ℕ). x * k) (div-add-mod' a b)) in
    subst (λ (x : ℕ). x % (b * k) ≡ a % b * k) split (mod-mul-add (a / b) (b * k) (a % b * k) below)

enough : (n m a b : ℕ) → b < n → b < m → common_within n a b ≡ common_within m a b
enough (suc n) (suc m) a zero p q = refl
enough (suc n) (suc m) a (suc b) p q =
    let r : a % suc b < suc b = mod_below a (suc b) (omega arith) in
    enough n m (suc b) (a % suc b) (omega arith) (omega arith)
enough zero m a b p q = absurd (omega arith)
enough (suc n) zero a b p q = absurd (omega arith)

pub greatest_common-zero : (a : ℕ) → greatest_common a 0 ≡ a
unfolding greatest_common
greatest_common-zero a = refl

pub greatest_common-step : (a b : ℕ) → 0 < b → greatest_common a b ≡ greatest_common b (a % b)
unfolding greatest_common
greatest_common-step a (suc b) p =
    let r : a % suc b < suc b = mod_below a (suc b) (omega arith) in
    enough (suc b) (suc (a % suc b)) (suc b) (a % suc b) (omega arith) (omega arith)
greatest_common-step a zero p = absurd (omega arith)

scaled : (n a b k : ℕ) → 0 < k → b < n → IsGcd (a * k) (b * k) (common_within n a b * k)
scaled zero a b k z p = absurd (omega arith)
scaled (suc n) a zero k z p = IsGcd-from_zero (a * k) (0 * k) (omega arith)
scaled (suc n) a (suc b) k z p =
    let r : a % suc b < suc b = mod_below a (suc b) (omega arith) in
    let next : IsGcd (suc b * k) (a % suc b * k) (common_within n (suc b) (a % suc b) * k) =
    scaled n (suc b) (a % suc b) k z (omega arith) in
    IsGcd-from_mod (a * k) (suc b * k) _ (rw (mod-scaled a (suc b) k z (omega arith)) next)

pub greatest_common-scaled : (a b k : ℕ) → 0 < k → IsGcd (a * k) (b * k) (greatest_common a b * k)
unfolding greatest_common
greatest_common-scaled a b k z = scaled (suc b) a b k z (omega arith)

pub is_common : (n a b : ℕ) → b < n → IsGcd a b (common_within n a b)
is_common zero a b p = absurd (omega arith)
is_common (suc n) a zero p = IsGcd-from_zero a 0 refl
is_common (suc n) a (suc b) p =
    let r : a % suc b < suc b = mod_below a (suc b) (omega arith) in
    IsGcd-from_mod a (suc b) _ (is_common n (suc b) (a % suc b) (omega arith))

pub greatest_common-is : (a b : ℕ) → IsGcd a b (greatest_common a b)
unfolding greatest_common
greatest_common-is a b = is_common (suc b) a b (omega arith)

-- if a and b are coprime, the greatest common divisor of a · k and b · k is k
pub IsGcd-scaled : (a b k : ℕ) → 0 < k → IsGcd a b 1 → IsGcd (a * k) (b * k) k
IsGcd-scaled a b k z coprime =
    let one : greatest_common a b ≡ 1 = same_from_IsGcd a b (greatest_common a b) 1 (greatest_common-is a b) coprime in
    let size : greatest_common a b * k ≡ k = ap (λ (g : ℕ). g * k) one ∙ omega arith in
    subst (IsGcd (a * k) (b * k)) size (greatest_common-scaled a b k z)

-- two fractions in lowest terms with equal cross products are the same
pub same_fraction : (n d m e : ℕ) → 0 < d → 0 < e → IsGcd n d 1 → IsGcd m e 1 → n * e ≡ m * d → (n ≡ m) × (d ≡ e)
same_fraction n d m e d_some e_some one other cross =
    let first : IsGcd (n * e) (d * e) e = IsGcd-scaled n d e e_some one in
    let second : IsGcd (m * d) (e * d) d = IsGcd-scaled m e d d_some other in
    let turned : e * d ≡ d * e = omega arith in
    let again : IsGcd (n * e) (d * e) d = subst (λ (x : ℕ). IsGcd x (d * e) d) (sym cross) (subst (λ (x : ℕ). IsGcd (m * d) x d) turned second) in
    let same : d ≡ e = same_from_IsGcd (n * e) (d * e) d e again first in
    let over : n * e ≡ m * e = cross ∙ ap (λ (x : ℕ). m * x) same in
    (eq_of_mul-eq-mul_right e e_some n m over, same)

pub greatest_common_le : (a b : ℕ) → 0 < b → greatest_common a b ≤ b
greatest_common_le a b p = le_of_dvd p (greatest_common-is a b).1

front_of : (q g b : ℕ) → q * g ≡ b → 0 < b → 0 < q
front_of zero g b e p = absurd (omega (arith, e))
front_of (suc q) g b e p = omega arith

pub greatest_common_above : (a b : ℕ) → 0 < b → 0 < greatest_common a b
greatest_common_above a b p =
    part_above (b / greatest_common a b) (greatest_common a b) b (div-mul_cancel _ (greatest_common-is a b).1) p

pub quotient_above : (a b : ℕ) → 0 < b → 0 < b / greatest_common a b
quotient_above a b p =
    front_of (b / greatest_common a b) (greatest_common a b) b (div-mul_cancel _ (greatest_common-is a b).1) p

-- two numbers divided by their greatest common divisor are coprime
pub quotients_coprime : (a b : ℕ) → 0 < b → greatest_common (a / greatest_common a b) (b / greatest_common a b) ≡ 1
quotients_coprime a b p =
    let g = greatest_common a b in
    let above : 0 < g = greatest_common_above a b p in
    let x : a / g * g ≡ a = div-mul_cancel g (greatest_common-is a b).0 in
    let y : b / g * g ≡ b = div-mul_cancel g (greatest_common-is a b).1 in
    let h = greatest_common (a / g) (b / g) * g in
    let s : IsGcd (a / g * g) (b / g * g) h = greatest_common-scaled (a / g) (b / g) g above in
    let t : IsGcd a b h = subst (λ (z : ℕ). IsGcd z b h) x (subst (λ (z : ℕ). IsGcd (a / g * g) z h) y s) in
    let e : h ≡ 1 * g = same_from_IsGcd _ _ _ _ t (greatest_common-is a b) ∙ omega arith in
    eq_of_mul-eq-mul_right g above _ _ e

pub gcd_positive : (a b g : ℕ) → IsGcd a b g → 0 < b → 0 < g
gcd_positive a b zero is some = absurd (let e : b ≡ 0 = dvd_antisymm (dvd-zero b) is.1 in omega arith)
gcd_positive a b (suc g) is some = omega arith
