-- Products of whole numbers, and their signs. An expression is written as one difference of natural numbers, which `omega` multiplies out.
use Rattle.std.proofs.Common.{◌≡◌, ℕ, zero, suc, ◌+◌, ◌*◌, ◌<◌, ap, arith}
use Rattle.std.proofs.{Math.Nat.eq_of_mul-eq-mul_right, lemmas.Int.ints, lemmas.Int.by_lt_z}
use lib.IntN.{ℤ, pos, negsuc, neg_ℤ, ◌+ℤ◌, ◌-ℤ◌, ◌*ℤ◌}
use lib.Signed.{◌<ℤ◌, ◌≤ℤ◌}
use borrow.Author.Differences.{up, down, same_in, sum_is_lem, neg_is, product_is}

-- the whole number u - v
pub diff : ℕ → ℕ → ℤ
diff u v = pos u -ℤ pos v

-- the fact about `diff` that the laws below use; the natural numbers `up z` and `down z` have the difference z
pub diff_parts : (u v : ℕ) → up (diff u v) + v ≡ down (diff u v) + u
unfolding diff
diff_parts u v = omega (arith, ints)

pub diff_self : (z : ℤ) → diff (up z) (down z) ≡ z
diff_self z = same_in _ _ (omega (arith, diff_parts))

pub diff_same : (u v s t : ℕ) → u + t ≡ s + v → diff u v ≡ diff s t
diff_same u v s t e = same_in _ _ (omega (arith, diff_parts))

pub diff_sum : (u v s t : ℕ) → diff u v +ℤ diff s t ≡ diff (u + s) (v + t)
diff_sum u v s t = same_in _ _ (omega (arith, diff_parts, sum_is_lem))

pub diff_neg : (u v : ℕ) → neg_ℤ (diff u v) ≡ diff v u
diff_neg u v = same_in _ _ (omega (arith, diff_parts, neg_is))

-- if a - b = u - v and c - d = s - t, then (a - b) · (c - d) = (u - v) · (s - t); all three equations are stated without
-- subtraction
pub cross : (a b c d u v s t : ℕ) → a + v ≡ b + u → c + t ≡ d + s
    → (a * c + b * d) + (u * t + v * s) ≡ (a * d + b * c) + (u * s + v * t)
cross a b c d u v s t e f =
    omega (arith, ap (λ (x : ℕ). x * c) e, ap (λ (x : ℕ). x * d) e, ap (λ (x : ℕ). x * u) f, ap (λ (x : ℕ). x * v) f)

pub diff_product : (u v s t : ℕ) → diff u v *ℤ diff s t ≡ diff (u * s + v * t) (u * t + v * s)
diff_product u v s t =
    let a = diff u v in
    let b = diff s t in
    let sides = cross (up a) (down a) (up b) (down b) u v s t (diff_parts u v) (diff_parts s t) in
    same_in _ _ (omega (arith, diff_parts, product_is a b, sides))

-- rules for `simp`, which write an expression of whole numbers as one difference
pub pos_is : (n : ℕ) → pos n ≡ diff n 0
pos_is n = same_in _ _ (omega (arith, diff_parts))

pub ruleset as_diff = (pos_is, diff_sum, diff_product, diff_neg)

pub times_times : (a b c : ℤ) → a *ℤ (b *ℤ c) ≡ (a *ℤ b) *ℤ c
times_times a b c = rw (← diff_self a, ← diff_self b, ← diff_self c) (simp as_diff (diff_same _ _ _ _ (omega arith)))

pub product_above : (g h : ℕ) → 0 < g → 0 < h → 0 < g * h
product_above g h p q = grind arith

pub cancel : (x y : ℤ) (k : ℕ) → 0 < k → x *ℤ pos k ≡ y *ℤ pos k → x ≡ y
cancel (pos a) (pos b) k z e = ap pos (eq_of_mul-eq-mul_right k z a b (ap up e))
cancel (pos a) (negsuc b) k z e = absurd (omega (arith, ints, e))
cancel (negsuc a) (pos b) k z e = absurd (omega (arith, ints, e))
cancel (negsuc a) (negsuc b) k z e =
    ap negsuc (ap pred_of (eq_of_mul-eq-mul_right k z (suc a) (suc b) (omega (arith, ints, e))))
  where
    pred_of : ℕ → ℕ
    pred_of zero = zero
    pred_of (suc n) = n

-- ---- signs of products
pub product_nonneg : (x y : ℤ) → pos 0 ≤ℤ x → pos 0 ≤ℤ y → pos 0 ≤ℤ (x *ℤ y)
product_nonneg (pos x) (pos y) p q = omega (arith, ints)
product_nonneg (pos x) (negsuc y) p q = absurd (omega (arith, ints, q))
product_nonneg (negsuc x) y p q = absurd (omega (arith, ints, p))

pub product_positive : (x y : ℤ) → pos 0 <ℤ x → pos 0 <ℤ y → pos 0 <ℤ (x *ℤ y)
product_positive (pos x) (pos y) p q =
    let r : 0 < x * y = product_above x y (omega (arith, ints, p)) (omega (arith, ints, q)) in omega (arith, ints, r)
product_positive (pos x) (negsuc y) p q = absurd (omega (arith, ints, q))
product_positive (negsuc x) y p q = absurd (omega (arith, ints, p))

pub product_negative : (x : ℤ) (k : ℕ) → 0 < k → x <ℤ pos 0 → (x *ℤ pos k) <ℤ pos 0
product_negative (pos x) k w p = absurd (omega (arith, ints, p))
product_negative (negsuc x) k w p = omega (arith, ints)

pub product_nonpositive : (x : ℤ) (k : ℕ) → x ≤ℤ pos 0 → (x *ℤ pos k) ≤ℤ pos 0
product_nonpositive (pos zero) k p = omega (arith, ints)
product_nonpositive (pos (suc x)) k p = absurd (omega (arith, ints, p))
product_nonpositive (negsuc x) k p = omega (arith, ints)

-- if x · d = n · k, k is positive, and x is at least 0, then n is at least 0
pub same_nonneg : (x n : ℤ) (d k : ℕ) → 0 < k → x *ℤ pos d ≡ n *ℤ pos k → pos 0 ≤ℤ x → pos 0 ≤ℤ n
same_nonneg x n d k q e p = by_lt_z n (pos 0) below (λ h. h)
  where
    below : n <ℤ pos 0 → pos 0 ≤ℤ n
    below h =
        let above : pos 0 ≤ℤ (x *ℤ pos d) = product_nonneg x (pos d) p (omega (arith, ints)) in
        let under : (n *ℤ pos k) <ℤ pos 0 = product_negative n k q h in
        absurd (omega (arith, ints, above, under, e))

-- if x · d = n · k, and d and x are positive, then n is positive
pub same_positive : (x n : ℤ) (d k : ℕ) → 0 < d → x *ℤ pos d ≡ n *ℤ pos k → pos 0 <ℤ x → pos 0 <ℤ n
same_positive x n d k q e p = by_lt_z (pos 0) n (λ h. h) at_most
  where
    at_most : n ≤ℤ pos 0 → pos 0 <ℤ n
    at_most h =
        let above : pos 0 <ℤ (x *ℤ pos d) = product_positive x (pos d) p (omega (arith, ints, q)) in
        let under : (n *ℤ pos k) ≤ℤ pos 0 = product_nonpositive n k h in
        absurd (omega (arith, ints, above, under, e))
