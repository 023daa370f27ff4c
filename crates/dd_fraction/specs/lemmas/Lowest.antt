-- Lowest terms: two pairs of numbers with equal cross products have the same lowest terms. So an equation of fractions
-- follows from an equation of whole numbers.
use Rattle.std.proofs.Common.{◌≡◌, ℕ, zero, suc, ◌*◌, ◌/◌, ◌<◌, refl, sym, ap, subst, ◌∙◌, max, arith}
use Rattle.std.proofs.lemmas.{Int.ints, Int.unsigned_abs-mul, Nat.Gcd.same_from_IsGcd}
use Rattle.std.proofs.Math.Nat.{eq_of_mul-eq-mul_right, div-mul_cancel, mul_comm, div-one}
use Prim.Native.Nat.{◌∣◌}
use lib.IntN.{ℤ, pos, negsuc, neg_ℤ, ◌*ℤ◌}
use Rattle.std.specs.Int.{IsGcd, RustNames.unsigned_abs, RustNames.int_div}
use borrow.Author.Differences.{same_in}
use Rattle.dd_fraction.specs.{Divisor.greatest_common, Exact.Exact, Exact.den_of, Exact.lowest, Exact.low, Exact.IsLowest, Exact.whole_of}
use Rattle.dd_fraction.specs.Checked.{IsFraction}
use Rattle.dd_fraction.specs.lemmas.Divisors.{greatest_common-scaled, greatest_common-is, quotients_coprime, quotient_above}
use Rattle.dd_fraction.specs.lemmas.Ring.{times_times, product_above, cancel}

pub neg_times : (q g : ℕ) → neg_ℤ (pos q) *ℤ pos g ≡ neg_ℤ (pos (q * g))
neg_times zero g = same_in _ _ (omega (arith, ints))
neg_times (suc q) g = refl

-- dividing a whole number by one of its divisors, and then multiplying by that divisor, changes nothing
pub whole_over : (n : ℤ) (g : ℕ) → g ∣ unsigned_abs n → int_div n (pos g) *ℤ pos g ≡ n
whole_over (pos n) g h = ap pos (div-mul_cancel g h)
whole_over (negsuc n) g h =
    neg_times (suc n / g) g ∙ ap (λ (x : ℕ). neg_ℤ (pos x)) (div-mul_cancel g h)

pub size_over : (n : ℤ) (g : ℕ) → unsigned_abs (int_div n (pos g)) ≡ unsigned_abs n / g
size_over (pos n) g = refl
size_over (negsuc n) g = omega (arith, ints)

-- a is what is left of the fraction n / d when n and d are divided by a common divisor g
pub record Parts (n : ℤ) (d : ℕ) (a : Exact) (g : ℕ) : Type 0 where
  pub above : 0 < g
  pub num : a.num *ℤ pos g ≡ n
  pub den : a.den * g ≡ d

pub lowest_parts : (n : ℤ) (d : ℕ) → Parts n (max 1 d) (lowest n d) (greatest_common (unsigned_abs n) (max 1 d))
unfolding lowest
lowest_parts n d0 =
    let d = max 1 d0 in
    let p : 0 < d = omega arith in
    let g : IsGcd (unsigned_abs n) d (greatest_common (unsigned_abs n) d) = greatest_common-is (unsigned_abs n) d in
    let e : d / greatest_common (unsigned_abs n) d * greatest_common (unsigned_abs n) d ≡ d = div-mul_cancel _ g.1 in
    record { above = positive_of _ _ e p; num = whole_over n _ g.0; den = e }
  where
    positive_of : (q g : ℕ) {d : ℕ} → q * g ≡ d → 0 < d → 0 < g
    positive_of q zero e p = absurd (omega (arith, e))
    positive_of q (suc g) e p = omega arith

pub exact_same : (a b : Exact) → a.num ≡ b.num → a.den ≡ b.den → a ≡ b
exact_same a b p q = λ i. record { num = p i; den = q i }

times_lem : (g h d e x y : ℕ) → x * g ≡ d → y * h ≡ e → g * e ≡ h * d → x * (g * h) ≡ y * (g * h)
times_lem g h d e x y p q s =
    omega (arith, s, ap (λ (t : ℕ). t * h) p, ap (λ (t : ℕ). t * g) q)

sizes_same : (n m : ℤ) (d e g h : ℕ) (a b : Exact) → Parts n d a g → Parts m e b h → g * e ≡ h * d → a.den ≡ b.den
sizes_same n m d e g h a b p q s =
    eq_of_mul-eq-mul_right (g * h) (product_above g h p.above q.above) a.den b.den
    (times_lem g h d e a.den b.den p.den q.den s)

numbers_same : (n m : ℤ) (d e g h : ℕ) (a b : Exact) → Parts n d a g → Parts m e b h → g * e ≡ h * d
    → n *ℤ pos e ≡ m *ℤ pos d → 0 < e → a.num ≡ b.num
numbers_same n m d e g h a b p q s t z =
    cancel a.num b.num (g * e) (product_above g e p.above z)
    (times_times a.num (pos g) (pos e) ∙ (ap (λ (x : ℤ). x *ℤ pos e) p.num ∙ (t
    ∙ (ap (λ (x : ℤ). x *ℤ pos d) (sym q.num)
    ∙ (sym (times_times b.num (pos h) (pos d)) ∙ ap (λ (k : ℕ). b.num *ℤ pos k) (sym s))))))

-- If n / d = m / e, the two fractions have the same lowest terms. Since |n| · e = |m| · d, the pairs (|n| · e, d · e) and (|m| · d, e · d) are the
-- same. The greatest common divisor of this pair is e times that of n and d, and also d times that of m and e.
pub lowest_same : (n m : ℤ) (d e : ℕ) → n *ℤ pos (max 1 e) ≡ m *ℤ pos (max 1 d) → lowest n d ≡ lowest m e
lowest_same n m d0 e0 s =
    let d = max 1 d0 in
    let e = max 1 e0 in
    let p : 0 < d = omega arith in
    let q : 0 < e = omega arith in
    let a = lowest_parts n d0 in
    let b = lowest_parts m e0 in
    let g = greatest_common (unsigned_abs n) d in
    let h = greatest_common (unsigned_abs m) e in
    let sizes : unsigned_abs n * e ≡ unsigned_abs m * d =
    sym (unsigned_abs-mul n (pos e)) ∙ (ap unsigned_abs s ∙ unsigned_abs-mul m (pos d)) in
    let one : IsGcd (unsigned_abs n * e) (d * e) (g * e) = greatest_common-scaled (unsigned_abs n) d e q in
    let two : IsGcd (unsigned_abs m * d) (e * d) (h * d) = greatest_common-scaled (unsigned_abs m) e d p in
    let turned : IsGcd (unsigned_abs m * d) (d * e) (h * d) =
    subst (λ (x : ℕ). IsGcd (unsigned_abs m * d) x (h * d)) (mul_comm e d) two in
    let same : g * e ≡ h * d =
    same_from_IsGcd _ _ _ _ one (subst (λ (x : ℕ). IsGcd x (d * e) (h * d)) (sym sizes) turned) in
    exact_same _ _ (numbers_same n m d e g h _ _ a b same s q) (sizes_same n m d e g h _ _ a b same)

pub lowest_same_at : (n m : ℤ) (d e : ℕ) → 0 < d → 0 < e → n *ℤ pos e ≡ m *ℤ pos d → lowest n d ≡ lowest m e
lowest_same_at n m d e p q s =
    let a : max 1 d ≡ d = omega arith in
    let b : max 1 e ≡ e = omega arith in
    lowest_same n m d e (rw (a, b) s)

pub lowest_positive : (n : ℤ) (d : ℕ) → 0 < (lowest n d).den
lowest_positive n d =
    let a = lowest_parts n d in
    above (lowest n d).den (greatest_common (unsigned_abs n) (max 1 d)) a.den (omega arith)
  where
    above : (q g : ℕ) {d : ℕ} → q * g ≡ d → 0 < d → 0 < q
    above zero g e p = absurd (omega (arith, e))
    above (suc q) g e p = omega arith

-- a fraction and its lowest terms have equal cross products
pub lowest_is : (n : ℤ) (d : ℕ) → (lowest n d).num *ℤ pos (max 1 d) ≡ n *ℤ pos (den_of (lowest n d))
lowest_is n d =
    let a = lowest_parts n d in
    let g = greatest_common (unsigned_abs n) (max 1 d) in
    let x = lowest n d in
    let same : den_of x ≡ x.den = omega (arith, lowest_positive n d) in
    ap (λ (k : ℕ). x.num *ℤ pos k) (sym a.den ∙ mul_comm x.den g)
    ∙ (times_times x.num (pos g) (pos x.den)
    ∙ (ap (λ (y : ℤ). y *ℤ pos x.den) a.num ∙ ap (λ (k : ℕ). n *ℤ pos k) (sym same)))

pub low_low : (n : ℤ) (d : ℕ) → low (lowest n d) ≡ lowest n d
low_low n d = lowest_same _ _ _ _ (lowest_is n d)

pub lowest_at : (n : ℤ) (d : ℕ) → 0 < d
    → let g = greatest_common (unsigned_abs n) d in lowest n d ≡ record { num = int_div n (pos g); den = d / g }
unfolding lowest
lowest_at n d p = let e : max 1 d ≡ d = omega arith in rw e refl

IsLowest-at : (n : ℤ) (d : ℕ) → 0 < d → IsLowest (lowest n d)
IsLowest-at n d p =
    let g = greatest_common (unsigned_abs n) d in
    let coprime : greatest_common (unsigned_abs (int_div n (pos g))) (d / g) ≡ 1 =
    ap (λ (x : ℕ). greatest_common x (d / g)) (size_over n g) ∙ quotients_coprime (unsigned_abs n) d p in
    subst IsLowest (sym (lowest_at n d p)) (record { positive = quotient_above (unsigned_abs n) d p; coprime = coprime })

pub IsLowest-lowest : (n : ℤ) (d : ℕ) → IsLowest (lowest n d)
IsLowest-lowest n zero = subst IsLowest (lowest_same n n 1 0 refl) (IsLowest-at n 1 (omega arith))
IsLowest-lowest n (suc d) = IsLowest-at n (suc d) (omega arith)

over_one : (n : ℤ) → int_div n (pos 1) ≡ n
over_one (pos n) = ap pos (div-one n)
over_one (negsuc n) = ap (λ (x : ℕ). neg_ℤ (pos x)) (div-one (suc n))

-- reducing a fraction to lowest terms changes nothing if it is in lowest terms already
pub low_lowest : (a : Exact) → IsLowest a → low a ≡ a
low_lowest a p =
    lowest_at a.num a.den p.positive
    ∙ exact_same _ _
    (ap (λ (g : ℕ). int_div a.num (pos g)) p.coprime ∙ over_one a.num)
    (ap (λ (g : ℕ). a.den / g) p.coprime ∙ div-one a.den)

pub IsLowest-from_fraction : (a : Exact) → IsFraction a → IsLowest a
IsLowest-from_fraction a p = record { positive = p.above; coprime = p.coprime }

pub low_fraction : (a : Exact) → IsFraction a → low a ≡ a
low_fraction a p = low_lowest a (IsLowest-from_fraction a p)

pub zero_is : lowest (pos 0) 1 ≡ whole_of (pos 0)
unfolding lowest greatest_common
zero_is = refl

pub one_is : lowest (pos 1) 1 ≡ whole_of (pos 1)
unfolding lowest greatest_common
one_is = refl
