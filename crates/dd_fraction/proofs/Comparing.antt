-- Cross products, compared by whole parts and remainders.
use Rattle.std.proofs.Common.{◌≡◌, ℕ, ◌+◌, ◌*◌, ◌/◌, ◌%◌, ◌<◌, ◌≤◌, refl, sym, ap, ◌∙◌, arith}
use Rattle.std.proofs.{lemmas.Nat.div-add-mod', lemmas.Nat.mod_below, Math.Nat.mul-le-mul_right, lemmas.Cmp.ranked}
use Rattle.std.specs.{Ordering.nat_cmp, declared.cmp.Ordering.Ordering}
use Rattle.std.specs.declared.cmp.Ordering.TheVariants.{Less, Equal, Greater}
use Rattle.dd_fraction.specs.lemmas.Ring.{product_above}

below_lem : (a b c d q p r s : ℕ) → 0 < d → q * b + r ≡ a → p * d + s ≡ c → r < b → q < p → a * d < c * b
below_lem a b c d q p r s z e f g h =
    let up : (q + 1) * b * d ≤ p * b * d = omega (arith, mul-le-mul_right (b * d) h) in
    let small : (r + 1) * d ≤ b * d = mul-le-mul_right d (omega arith) in
    omega (arith, ap (λ (x : ℕ). x * d) e, ap (λ (x : ℕ). x * b) f)

pub whole_below : (a b c d : ℕ) → 0 < b → 0 < d → a / b < c / d → a * d < c * b
whole_below a b c d y z h =
    below_lem a b c d (a / b) (c / d) (a % b) (c % d) z (div-add-mod' a b) (div-add-mod' c d) (mod_below a b y) h

-- if a / b and c / d have the same whole part q, and the remainders r and s, the cross products are q · b · d + d · r and q · b · d + b · s
rest_lem : (a b c d q r s : ℕ) → q * b + r ≡ a → q * d + s ≡ c
    → (a * d ≡ q * b * d + d * r) × (c * b ≡ q * b * d + b * s)
rest_lem a b c d q r s e f = (omega (arith, ap (λ (x : ℕ). x * d) e), omega (arith, ap (λ (x : ℕ). x * b) f))

rest_decides : (a b c d : ℕ) → a / b ≡ c / d
    → (a * d ≡ a / b * b * d + d * (a % b)) × (c * b ≡ a / b * b * d + b * (c % d))
rest_decides a b c d e =
    rest_lem a b c d (a / b) (a % b) (c % d) (div-add-mod' a b)
    (ap (λ (x : ℕ). x * d + c % d) e ∙ div-add-mod' c d)

pub less_is : (x y : ℕ) → x < y → Less ≡ nat_cmp x y
less_is x y h = grind arith

pub greater_is : (x y : ℕ) → y < x → Greater ≡ nat_cmp x y
greater_is x y h = grind arith

pub equal_is : (x y : ℕ) → x ≡ y → Equal ≡ nat_cmp x y
equal_is x y h = grind arith

cmp_more : (k x y : ℕ) → nat_cmp (k + x) (k + y) ≡ nat_cmp x y
cmp_more k x y = grind arith

pub rest_cmp : (a b c d : ℕ) → a / b ≡ c / d → nat_cmp (a * d) (c * b) ≡ nat_cmp (d * (a % b)) (b * (c % d))
rest_cmp a b c d e =
    let p = rest_decides a b c d e in
    rw (p.0, p.1) (cmp_more (a / b * b * d) (d * (a % b)) (b * (c % d)))

pub whole_decides : (a b c d : ℕ) (r : Ordering) → 0 < b → 0 < d → r ≡ nat_cmp (a / b) (c / d) → (r ≡ Equal → ⊥)
    → r ≡ nat_cmp (a * d) (c * b)
whole_decides a b c d Less y z e n = less_is _ _ (whole_below a b c d y z (ranked _ _ Less e))
whole_decides a b c d Equal y z e n = absurd (n refl)
whole_decides a b c d Greater y z e n = greater_is _ _ (whole_below c d a b z y (ranked _ _ Greater e))

pub rests_equal : (a b c d : ℕ) → a / b ≡ c / d → a % b ≡ 0 → c % d ≡ 0 → Equal ≡ nat_cmp (a * d) (c * b)
rests_equal a b c d e x y =
    let z : d * (a % b) ≡ b * (c % d) = rw (x, y) (omega arith) in
    equal_is _ _ z ∙ sym (rest_cmp a b c d e)

pub rests_less : (a b c d : ℕ) → a / b ≡ c / d → 0 < b → a % b ≡ 0 → 0 < c % d → Less ≡ nat_cmp (a * d) (c * b)
rests_less a b c d e w x y =
    let p : 0 < b * (c % d) = product_above b (c % d) w y in
    let z : d * (a % b) < b * (c % d) = rw (x) (omega (arith, p)) in
    less_is _ _ z ∙ sym (rest_cmp a b c d e)

pub rests_greater : (a b c d : ℕ) → a / b ≡ c / d → 0 < d → c % d ≡ 0 → 0 < a % b → Greater ≡ nat_cmp (a * d) (c * b)
rests_greater a b c d e w x y =
    let p : 0 < d * (a % b) = product_above d (a % b) w y in
    let z : b * (c % d) < d * (a % b) = rw (x) (omega (arith, p)) in
    greater_is _ _ z ∙ sym (rest_cmp a b c d e)
