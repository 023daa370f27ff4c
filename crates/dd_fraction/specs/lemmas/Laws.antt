-- The laws of exact fractions: sum, opposite, product and inverse. To prove most of them, each side is written as `lowest` of one pair of numbers,
-- and the two pairs have equal cross products.
use Rattle.std.proofs.Common.{◌≡◌, ℕ, zero, suc, ◌*◌, ◌/◌, ◌<◌, refl, sym, ap, ◌∙◌, max, arith, subst}
use Rattle.std.proofs.{lemmas.Int.ints, Math.Nat.mul_comm, Math.Nat.zero-div}
use lib.IntN.{ℤ, pos, negsuc, neg_ℤ, ◌+ℤ◌, ◌*ℤ◌, *ℤ_comm, +ℤ_comm, neg_ℤ-neg_ℤ}
use Rattle.dd_fraction.specs.Divisor.{greatest_common}
use Rattle.dd_fraction.specs.Exact.{Exact, IsLowest, den_of, lowest, low, plus, times, minus, whole_of, inverse, one_over}
use Rattle.dd_fraction.specs.lemmas.Lowest.{lowest_same, lowest_same_at, lowest_is, low_low, exact_same, zero_is, one_is, IsLowest-lowest}
use Rattle.dd_fraction.specs.lemmas.Ring.{diff_self, diff_same, as_diff, product_above}

products : (a b : ℕ) → 0 < max 1 a * max 1 b
products a b = product_above (max 1 a) (max 1 b) (omega arith) (omega arith)

three : (a b c : ℕ) → 0 < (max 1 a * max 1 b) * max 1 c
three a b c = product_above (max 1 a * max 1 b) (max 1 c) (products a b) (omega arith)

max_product : (a b : ℕ) → max 1 (max 1 a * max 1 b) ≡ max 1 a * max 1 b
max_product a b = omega (arith, products a b)

max_one : (b : ℕ) → max 1 (max 1 1 * max 1 b) ≡ 1 * max 1 b
max_one b = omega arith

-- ---- one sum and one product
pub plus_is : (a b : Exact)
    → plus a b ≡ lowest (a.num *ℤ pos (den_of b) +ℤ b.num *ℤ pos (den_of a)) (den_of a * den_of b)
unfolding plus
plus_is a b = refl

pub times_is : (a b : Exact) → times a b ≡ lowest (a.num *ℤ b.num) (den_of a * den_of b)
unfolding times
times_is a b = refl

pub IsLowest-times : (a b : Exact) → IsLowest (times a b)
IsLowest-times a b = subst IsLowest (sym (times_is a b)) (IsLowest-lowest _ _)

pub low_plus : (a b : Exact) → low (plus a b) ≡ plus a b
low_plus a b = ap low (plus_is a b) ∙ (low_low _ _ ∙ sym (plus_is a b))

pub low_times : (a b : Exact) → low (times a b) ≡ times a b
low_times a b = ap low (times_is a b) ∙ (low_low _ _ ∙ sym (times_is a b))

pub plus_comm : (a b : Exact) → plus a b ≡ plus b a
unfolding plus
plus_comm a b =
    ap (λ (d : ℕ). lowest (a.num *ℤ pos (den_of b) +ℤ b.num *ℤ pos (den_of a)) d) (mul_comm (den_of a) (den_of b))
    ∙ ap (λ (n : ℤ). lowest n (den_of b * den_of a)) (+ℤ_comm (a.num *ℤ pos (den_of b)) (b.num *ℤ pos (den_of a)))

pub times_comm : (a b : Exact) → times a b ≡ times b a
unfolding times
times_comm a b = λ i. lowest (*ℤ_comm a.num b.num i) (mul_comm (den_of a) (den_of b) i)

-- ---- sums and products don't depend on whether the fractions are in lowest terms
sum_one : (x m : ℤ) (d e k : ℕ)
    → (x *ℤ pos e +ℤ m *ℤ pos k) *ℤ pos (d * e) ≡ (x *ℤ pos d) *ℤ pos (e * e) +ℤ m *ℤ pos (k * (d * e))
sum_one x m d e k = rw (← diff_self x, ← diff_self m) (simp as_diff (diff_same _ _ _ _ (omega arith)))

sum_two : (n m : ℤ) (d e k : ℕ)
    → (n *ℤ pos k) *ℤ pos (e * e) +ℤ m *ℤ pos (k * (d * e)) ≡ (n *ℤ pos e +ℤ m *ℤ pos d) *ℤ pos (k * e)
sum_two n m d e k = rw (← diff_self n, ← diff_self m) (simp as_diff (diff_same _ _ _ _ (omega arith)))

sum_left : (n m x : ℤ) (d e k : ℕ) → x *ℤ pos d ≡ n *ℤ pos k
    → (x *ℤ pos e +ℤ m *ℤ pos k) *ℤ pos (d * e) ≡ (n *ℤ pos e +ℤ m *ℤ pos d) *ℤ pos (k * e)
sum_left n m x d e k p =
    sum_one x m d e k ∙ (ap (λ (y : ℤ). y *ℤ pos (e * e) +ℤ m *ℤ pos (k * (d * e))) p ∙ sum_two n m d e k)

product_one : (x m : ℤ) (d e : ℕ) → (x *ℤ m) *ℤ pos (d * e) ≡ (x *ℤ pos d) *ℤ (m *ℤ pos e)
product_one x m d e = rw (← diff_self x, ← diff_self m) (simp as_diff (diff_same _ _ _ _ (omega arith)))

product_left : (n m x : ℤ) (d e k : ℕ) → x *ℤ pos d ≡ n *ℤ pos k → (x *ℤ m) *ℤ pos (d * e) ≡ (n *ℤ m) *ℤ pos (k * e)
product_left n m x d e k p = product_one x m d e ∙ (ap (λ (y : ℤ). y *ℤ (m *ℤ pos e)) p ∙ sym (product_one n m k e))

plus_left : (n : ℤ) (d : ℕ) (b : Exact)
    → plus (lowest n d) b ≡ lowest (n *ℤ pos (den_of b) +ℤ b.num *ℤ pos (max 1 d)) (max 1 d * den_of b)
unfolding plus
plus_left n d b =
    lowest_same_at _ _ _ _ (products (lowest n d).den b.den) (products d b.den)
    (sum_left n b.num (lowest n d).num (max 1 d) (den_of b) (den_of (lowest n d)) (lowest_is n d))

times_left : (n : ℤ) (d : ℕ) (b : Exact) → times (lowest n d) b ≡ lowest (n *ℤ b.num) (max 1 d * den_of b)
unfolding times
times_left n d b =
    lowest_same_at _ _ _ _ (products (lowest n d).den b.den) (products d b.den)
    (product_left n b.num (lowest n d).num (max 1 d) (den_of b) (den_of (lowest n d)) (lowest_is n d))

pub plus_low_left : (a b : Exact) → plus (low a) b ≡ plus a b
plus_low_left a b = plus_left a.num a.den b ∙ sym (plus_is a b)

pub plus_low_right : (a b : Exact) → plus a (low b) ≡ plus a b
plus_low_right a b = plus_comm a (low b) ∙ (plus_low_left b a ∙ plus_comm b a)

pub times_low_left : (a b : Exact) → times (low a) b ≡ times a b
times_low_left a b = times_left a.num a.den b ∙ sym (times_is a b)

pub times_low_right : (a b : Exact) → times a (low b) ≡ times a b
times_low_right a b = times_comm a (low b) ∙ (times_low_left b a ∙ times_comm b a)

-- ---- three fractions
assoc_lem : (x y z : ℤ) (d e f : ℕ)
    → ((x *ℤ pos e +ℤ y *ℤ pos d) *ℤ pos f +ℤ z *ℤ pos (d * e)) *ℤ pos ((e * f) * d)
    ≡ ((y *ℤ pos f +ℤ z *ℤ pos e) *ℤ pos d +ℤ x *ℤ pos (e * f)) *ℤ pos ((d * e) * f)
assoc_lem x y z d e f =
    rw (← diff_self x, ← diff_self y, ← diff_self z) (simp as_diff (diff_same _ _ _ _ (omega arith)))

-- a sum of three fractions, as one fraction
plus_three : (a b c : Exact)
    → plus (plus a b) c
    ≡ lowest
    ((a.num *ℤ pos (den_of b) +ℤ b.num *ℤ pos (den_of a)) *ℤ pos (den_of c) +ℤ c.num *ℤ pos (den_of a * den_of b))
    ((den_of a * den_of b) * den_of c)
plus_three a b c = rw (plus_is a b, plus_left, max_product a.den b.den) refl

pub plus_assoc : (a b c : Exact) → plus (plus a b) c ≡ plus a (plus b c)
plus_assoc a b c =
    plus_three a b c
    ∙ (lowest_same_at _ _ _ _ (three a.den b.den c.den) (three b.den c.den a.den)
    (assoc_lem a.num b.num c.num (den_of a) (den_of b) (den_of c))
    ∙ (sym (plus_three b c a) ∙ plus_comm (plus b c) a))

times_three : (a b c : Exact)
    → times (times a b) c ≡ lowest ((a.num *ℤ b.num) *ℤ c.num) ((den_of a * den_of b) * den_of c)
times_three a b c = rw (times_is a b, times_left, max_product a.den b.den) refl

times_assoc_lem : (x y z : ℤ) (d e f : ℕ)
    → ((x *ℤ y) *ℤ z) *ℤ pos ((e * f) * d) ≡ ((y *ℤ z) *ℤ x) *ℤ pos ((d * e) * f)
times_assoc_lem x y z d e f =
    rw (← diff_self x, ← diff_self y, ← diff_self z) (simp as_diff (diff_same _ _ _ _ (omega arith)))

pub times_assoc : (a b c : Exact) → times (times a b) c ≡ times a (times b c)
times_assoc a b c =
    times_three a b c
    ∙ (lowest_same_at _ _ _ _ (three a.den b.den c.den) (three b.den c.den a.den)
    (times_assoc_lem a.num b.num c.num (den_of a) (den_of b) (den_of c))
    ∙ (sym (times_three b c a) ∙ times_comm (times b c) a))

plus_both : (n m : ℤ) (d e : ℕ) → 0 < d → 0 < e
    → plus (lowest n d) (lowest m e) ≡ lowest (n *ℤ pos e +ℤ m *ℤ pos d) (d * e)
plus_both n m d e p q =
    let x : Exact = record { num = n; den = d } in
    let y : Exact = record { num = m; den = e } in
    let a : max 1 d ≡ d = omega arith in
    let b : max 1 e ≡ e = omega arith in
    plus_low_left x (low y) ∙ (plus_low_right x y ∙ (plus_is x y ∙ rw (a, b) refl))

spread_lem : (x y z : ℤ) (d e f : ℕ)
    → ((y *ℤ pos f +ℤ z *ℤ pos e) *ℤ x) *ℤ pos ((d * e) * (d * f))
    ≡ ((x *ℤ y) *ℤ pos (d * f) +ℤ (x *ℤ z) *ℤ pos (d * e)) *ℤ pos ((e * f) * d)
spread_lem x y z d e f =
    rw (← diff_self x, ← diff_self y, ← diff_self z) (simp as_diff (diff_same _ _ _ _ (omega arith)))

pub times_plus : (a b c : Exact) → times a (plus b c) ≡ plus (times a b) (times a c)
times_plus a b c =
    times_comm a (plus b c) ∙ (rw (plus_is b c, times_left, max_product b.den c.den) refl
    ∙ (lowest_same_at _ _ _ _ (three b.den c.den a.den)
    (product_above _ _ (products a.den b.den) (products a.den c.den))
    (spread_lem a.num b.num c.num (den_of a) (den_of b) (den_of c))
    ∙ sym (rw (times_is a b, times_is a c)
    (plus_both (a.num *ℤ b.num) (a.num *ℤ c.num) (den_of a * den_of b) (den_of a * den_of c)
    (products a.den b.den) (products a.den c.den)))))

pub plus_times : (a b c : Exact) → times (plus a b) c ≡ plus (times a c) (times b c)
plus_times a b c =
    times_comm (plus a b) c ∙ (times_plus c a b ∙ (λ i. plus (times_comm c a i) (times_comm c b i)))

-- ---- 0 and 1
plus_zero_lem : (x : ℤ) (d : ℕ) → (pos 0 *ℤ pos d +ℤ x *ℤ pos 1) *ℤ pos d ≡ x *ℤ pos (1 * d)
plus_zero_lem x d = rw (← diff_self x) (simp as_diff (diff_same _ _ _ _ (omega arith)))

pub zero_plus : (a : Exact) → plus (whole_of (pos 0)) a ≡ low a
zero_plus a =
    plus_is (whole_of (pos 0)) a ∙ lowest_same _ _ _ _ (rw (max_one a.den) (plus_zero_lem a.num (den_of a)))

pub plus_zero : (a : Exact) → plus a (whole_of (pos 0)) ≡ low a
plus_zero a = plus_comm a (whole_of (pos 0)) ∙ zero_plus a

times_one_lem : (x : ℤ) (d : ℕ) → (pos 1 *ℤ x) *ℤ pos d ≡ x *ℤ pos (1 * d)
times_one_lem x d = rw (← diff_self x) (simp as_diff (diff_same _ _ _ _ (omega arith)))

pub one_times : (a : Exact) → times (whole_of (pos 1)) a ≡ low a
one_times a =
    times_is (whole_of (pos 1)) a ∙ lowest_same _ _ _ _ (rw (max_one a.den) (times_one_lem a.num (den_of a)))

pub times_one : (a : Exact) → times a (whole_of (pos 1)) ≡ low a
times_one a = times_comm a (whole_of (pos 1)) ∙ one_times a

pub zero_times : (a : Exact) → times (whole_of (pos 0)) a ≡ whole_of (pos 0)
zero_times a = times_is (whole_of (pos 0)) a ∙ (lowest_same _ (pos 0) _ 1 (omega (arith, ints)) ∙ zero_is)

pub times_zero : (a : Exact) → times a (whole_of (pos 0)) ≡ whole_of (pos 0)
times_zero a = times_comm a (whole_of (pos 0)) ∙ zero_times a

-- ---- the opposite
zero_lem : (x : ℤ) (d : ℕ) → (x *ℤ pos d +ℤ neg_ℤ x *ℤ pos d) *ℤ pos 1 ≡ pos 0 *ℤ pos (d * d)
zero_lem x d = rw (← diff_self x) (simp as_diff (diff_same _ _ _ _ (omega arith)))

pub plus_minus : (a : Exact) → plus a (minus a) ≡ whole_of (pos 0)
plus_minus a =
    plus_is a (minus a)
    ∙ (lowest_same_at _ (pos 0) _ 1 (products a.den a.den) (omega arith) (zero_lem a.num (den_of a)) ∙ zero_is)

pub minus_minus : (a : Exact) → minus (minus a) ≡ a
minus_minus a = exact_same _ _ (neg_ℤ-neg_ℤ a.num) refl

pub minus_lowest : (n : ℤ) (d : ℕ) → minus (lowest n d) ≡ lowest (neg_ℤ n) d
unfolding lowest
minus_lowest (pos zero) d =
    let z : pos (0 / greatest_common 0 (max 1 d)) ≡ pos 0 = ap pos (zero-div (greatest_common 0 (max 1 d))) in
    exact_same _ _ (ap neg_ℤ z ∙ sym z) refl
minus_lowest (pos (suc n)) d = refl
minus_lowest (negsuc n) d = exact_same _ _ (neg_ℤ-neg_ℤ (pos (suc n / greatest_common (suc n) (max 1 d)))) refl

minus_sum_lem : (x y : ℤ) (d e : ℕ) → neg_ℤ (x *ℤ pos d +ℤ y *ℤ pos e) ≡ neg_ℤ x *ℤ pos d +ℤ neg_ℤ y *ℤ pos e
minus_sum_lem x y d e = rw (← diff_self x, ← diff_self y) (simp as_diff (diff_same _ _ _ _ (omega arith)))

pub neg_product : (x y : ℤ) → neg_ℤ (x *ℤ y) ≡ neg_ℤ x *ℤ y
neg_product x y = rw (← diff_self x, ← diff_self y) (simp as_diff (diff_same _ _ _ _ (omega arith)))

pub minus_plus : (a b : Exact) → minus (plus a b) ≡ plus (minus a) (minus b)
minus_plus a b =
    ap minus (plus_is a b) ∙ (minus_lowest _ _
    ∙ (ap (λ (n : ℤ). lowest n (den_of a * den_of b)) (minus_sum_lem a.num b.num (den_of b) (den_of a))
    ∙ sym (plus_is (minus a) (minus b))))

pub minus_times : (a b : Exact) → minus (times a b) ≡ times (minus a) b
minus_times a b =
    ap minus (times_is a b) ∙ (minus_lowest _ _
    ∙ (ap (λ (n : ℤ). lowest n (den_of a * den_of b)) (neg_product a.num b.num) ∙ sym (times_is (minus a) b)))

pub minus_times_right : (a b : Exact) → minus (times a b) ≡ times a (minus b)
minus_times_right a b = ap minus (times_comm a b) ∙ (minus_times b a ∙ times_comm (minus b) a)

-- ---- the inverse
inverse_at : (x y : ℤ) (d n : ℕ) → 0 < d → 0 < n → x *ℤ y ≡ pos (n * d)
    → times (record { num = x; den = d }) (record { num = y; den = n }) ≡ whole_of (pos 1)
inverse_at x y d n p q e =
    let a : max 1 d ≡ d = omega arith in
    let b : max 1 n ≡ n = omega arith in
    times_is (record { num = x; den = d }) (record { num = y; den = n })
    ∙ (rw (a, b, e)
    (lowest_same_at (pos (n * d)) (pos 1) (d * n) 1 (product_above d n p q) (omega arith) (ap pos (omega arith)))
    ∙ one_is)

inverse_lem : (n : ℤ) (d : ℕ) → ¬ (n ≡ pos 0) → 0 < d
    → times (record { num = n; den = d }) (one_over n d) ≡ whole_of (pos 1)
inverse_lem (pos zero) d p q = absurd (p refl)
inverse_lem (pos (suc n)) d p q = inverse_at (pos (suc n)) (pos d) d (suc n) q (omega arith) refl
inverse_lem (negsuc n) zero p q = absurd (omega arith)
inverse_lem (negsuc n) (suc d) p q = inverse_at (negsuc n) (negsuc d) (suc d) (suc n) q (omega arith) refl

pub times_inverse : (a : Exact) → ¬ (a.num ≡ pos 0) → times a (inverse a) ≡ whole_of (pos 1)
times_inverse a p =
    times_is a (inverse a) ∙ (twice a.num a.den (inverse a)
    ∙ (sym (times_is (record { num = a.num; den = max 1 a.den }) (inverse a))
    ∙ inverse_lem a.num (max 1 a.den) p (omega arith)))
  where
    twice : (n : ℤ) (d : ℕ) (b : Exact)
        → lowest (n *ℤ b.num) (max 1 d * den_of b) ≡ lowest (n *ℤ b.num) (max 1 (max 1 d) * den_of b)
    twice n d b = let e : max 1 (max 1 d) ≡ max 1 d = omega arith in rw (e) refl

-- ---- sums of several fractions
pub plus_swap : (a b c : Exact) → plus a (plus b c) ≡ plus b (plus a c)
plus_swap a b c = sym (plus_assoc a b c) ∙ (ap (λ (t : Exact). plus t c) (plus_comm a b) ∙ plus_assoc b a c)

pub plus_four : (a b c d : Exact) → plus (plus a b) (plus c d) ≡ plus (plus a c) (plus b d)
plus_four a b c d = plus_assoc a b (plus c d) ∙ (ap (plus a) (plus_swap b c d) ∙ sym (plus_assoc a c (plus b d)))

-- a + (-a + b) is b in lowest terms
pub plus_undo : (a b : Exact) → plus a (plus (minus a) b) ≡ low b
plus_undo a b =
    sym (plus_assoc a (minus a) b) ∙ (ap (λ (t : Exact). plus t b) (plus_minus a) ∙ zero_plus b)

pub plus_cancel : (a b c : Exact) → plus a c ≡ plus b c → low a ≡ low b
plus_cancel a b c e = sym (back a) ∙ (ap (λ (t : Exact). plus t (minus c)) e ∙ back b)
  where
    back : (a : Exact) → plus (plus a c) (minus c) ≡ low a
    back a = plus_assoc a c (minus c) ∙ (ap (plus a) (plus_minus c) ∙ plus_zero a)
