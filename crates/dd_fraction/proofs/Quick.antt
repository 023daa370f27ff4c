-- Sums and products that are computed without a greatest common divisor, or with that of smaller numbers.
use Rattle.std.proofs.Common.{◌≡◌, ℕ, suc, ◌+◌, ◌*◌, ◌^◌, ◌<◌, ◌≤◌, ◌-◌, ◌⊎◌, inl, inr, sym, ap, subst, ◌∙◌, arith, Some, true}
use Rattle.std.proofs.lemmas.{Bool.lt-ltb, Bool.ltb-true, Int.ints, Int.by_lt_z, Int.unsigned_abs-mul}
use Rattle.std.proofs.lemmas.Nat.Gcd.{same_from_IsGcd}
use Rattle.std.proofs.Math.Nat.{mul-le-mul_right, mul_comm, dvd-add, dvd-sub, dvd-mul_left_of_dvd, one-dvd}
use Prim.Native.Nat.{◌∣◌}
use lib.IntN.{ℤ, pos, negsuc, ◌+ℤ◌, ◌*ℤ◌}
use Rattle.std.specs.Int.{IsGcd, RustNames.unsigned_abs}
use Rattle.dd_fraction.specs.{Divisor.greatest_common, Exact.Exact, Exact.lowest, Exact.plus, Exact.whole_of}
use Rattle.dd_fraction.specs.Checked.{IsFraction, is_bounded, bounded, bounded_size, checked_sum}
use Rattle.dd_fraction.specs.lemmas.Divisors.{greatest_common-is}
use Rattle.dd_fraction.specs.lemmas.Lowest.{exact_same, lowest_same_at, low_fraction}
use Rattle.dd_fraction.specs.lemmas.Laws.{plus_comm, plus_zero}
use Rattle.dd_fraction.specs.lemmas.Results.{bounded_some, size_some, crossed, lowest_coprime, plus_at}
use Rattle.dd_fraction.specs.lemmas.Ring.{diff_self, diff_same, as_diff, product_above}

pub within : (z : ℤ) → unsigned_abs z < 2 ^ 127 → is_bounded z ≡ true
within z p = lt-ltb _ _ p

pub size_plus : (x y : ℤ) → unsigned_abs (x +ℤ y) ≤ unsigned_abs x + unsigned_abs y
size_plus x y = omega (arith, ints)

-- ---- 0 + b
none_times : (n : ℤ) (d : ℕ) → n ≡ pos 0 → unsigned_abs (n *ℤ pos d) ≡ 0
none_times n d e = unsigned_abs-mul n (pos d) ∙ (ap (λ (x : ℤ). unsigned_abs x * d) e ∙ omega arith)

zero_plus : (a b : Exact) → a.num ≡ pos 0 → a.den ≡ 1 → IsFraction b → plus a b ≡ b
zero_plus a b e f q =
    ap (λ (x : Exact). plus x b) (exact_same a (whole_of (pos 0)) e f)
    ∙ (plus_comm (whole_of (pos 0)) b ∙ (plus_zero b ∙ low_fraction b q))

pub zero_sum : (a b : Exact) → a.num ≡ pos 0 → a.den ≡ 1 → IsFraction b → Some b ≡ checked_sum a b
zero_sum a b e f q =
    let below = q.below in
    let bounded = q.bounded in
    let none : unsigned_abs (a.num *ℤ pos b.den) ≡ 0 = none_times a.num b.den e in
    let same : unsigned_abs (b.num *ℤ pos a.den) ≡ unsigned_abs b.num =
    unsigned_abs-mul b.num (pos a.den) ∙ (ap (λ (d : ℕ). unsigned_abs b.num * d) f ∙ omega arith) in
    let both = size_plus (a.num *ℤ pos b.den) (b.num *ℤ pos a.den) in
    let den : a.den * b.den ≡ b.den = ap (λ (d : ℕ). d * b.den) f ∙ omega arith in
    let one = within (a.num *ℤ pos b.den) (omega (arith, none)) in
    let two = within (b.num *ℤ pos a.den) (omega (arith, same, bounded)) in
    let three = within (a.num *ℤ pos b.den +ℤ b.num *ℤ pos a.den) (omega (arith, none, same, both, bounded)) in
    let four = within (pos (a.den * b.den)) (omega (arith, den, below)) in
    rw (one, two, three, four) (ap (λ (t : Exact). Some t) (sym (zero_plus a b e f q)))

-- ---- equal denominators
word_times : (n : ℤ) (d : ℕ) → unsigned_abs n ≤ 2 ^ 63 → d < 2 ^ 63 → unsigned_abs (n *ℤ pos d) ≤ 2 ^ 63 * d
word_times n d p q = let e = unsigned_abs-mul n (pos d) in omega (arith, e, mul-le-mul_right d p)

alike_cross : (x y : ℤ) (d : ℕ) → (x +ℤ y) *ℤ pos (d * d) ≡ (x *ℤ pos d +ℤ y *ℤ pos d) *ℤ pos d
alike_cross x y d = rw (← diff_self x, ← diff_self y) (simp as_diff (diff_same _ _ _ _ (omega arith)))

pub alike_plus : (a b : Exact) → 0 < a.den → a.den ≡ b.den → lowest (a.num +ℤ b.num) a.den ≡ plus a b
alike_plus a b p e =
    lowest_same_at (a.num +ℤ b.num) (a.num *ℤ pos a.den +ℤ b.num *ℤ pos a.den) a.den (a.den * a.den) p
    (product_above a.den a.den p p) (alike_cross a.num b.num a.den)
    ∙ plus_at a b _ _ p (omega (arith, e, p)) (ap (λ (d : ℕ). a.num *ℤ pos d +ℤ b.num *ℤ pos a.den) e)
    (ap (λ (d : ℕ). a.den * d) e)

pub alike_sum : (a b s : Exact) → IsFraction a → a.den ≡ b.den → a.den < 2 ^ 63
    → unsigned_abs a.num ≤ 2 ^ 63 → unsigned_abs b.num ≤ 2 ^ 63 → s ≡ lowest (a.num +ℤ b.num) a.den → Some s ≡ checked_sum a b
alike_sum a b s p e small left right k =
    let other : b.den < 2 ^ 63 = omega (arith, e, small) in
    let x = word_times a.num b.den left other in
    let y = word_times b.num a.den right small in
    let both = size_plus (a.num *ℤ pos b.den) (b.num *ℤ pos a.den) in
    let den : a.den * b.den ≤ 2 ^ 63 * b.den = mul-le-mul_right b.den (omega (arith, small)) in
    let one = within (a.num *ℤ pos b.den) (omega (arith, x, other)) in
    let two = within (b.num *ℤ pos a.den) (omega (arith, y, small)) in
    let three = within (a.num *ℤ pos b.den +ℤ b.num *ℤ pos a.den) (omega (arith, x, y, both, other, small)) in
    let four = within (pos (a.den * b.den)) (omega (arith, den, other)) in
    rw (one, two, three, four) (ap (λ (t : Exact). Some t) (k ∙ alike_plus a b p.above e))

-- ---- one summand is a whole number
less : (k x y z : ℕ) → y - x ≡ z → k ∣ x → k ∣ y → k ∣ z
less k x y z e p q = subst (λ (n : ℕ). k ∣ n) e (dvd-sub k q p)

more : (k x y z : ℕ) → y + x ≡ z → k ∣ x → k ∣ y → k ∣ z
more k x y z e p q = subst (λ (n : ℕ). k ∣ n) e (dvd-add k q p)

-- if a number divides the sum of two numbers, and one of the two, it also divides the other
part : (k : ℕ) (s t : ℤ) → k ∣ unsigned_abs s → k ∣ unsigned_abs (s +ℤ t) → k ∣ unsigned_abs t
part k (pos a) (pos b) p q = less k a (unsigned_abs (pos a +ℤ pos b)) b (omega (arith, ints)) p q
part k (negsuc a) (negsuc b) p q =
    less k (suc a) (unsigned_abs (negsuc a +ℤ negsuc b)) (suc b) (omega (arith, ints)) p q
part k (pos a) (negsuc b) p q =
    let sum = unsigned_abs (pos a +ℤ negsuc b) in
    by_lt_z (pos a +ℤ negsuc b) (pos 0)
    (λ h. more k a sum (suc b) (omega (arith, ints, h)) p q)
    (λ h. less k sum a (suc b) (omega (arith, ints, h)) q p)
part k (negsuc a) (pos b) p q =
    let sum = unsigned_abs (negsuc a +ℤ pos b) in
    by_lt_z (negsuc a +ℤ pos b) (pos 0)
    (λ h. less k sum (suc a) b (omega (arith, ints, h)) q p)
    (λ h. more k (suc a) sum b (omega (arith, ints, h)) p q)

whole_coprime : (m p : ℤ) (q e : ℕ) → e ≡ 1 → greatest_common (unsigned_abs p) q ≡ 1
    → greatest_common (unsigned_abs (m *ℤ pos q +ℤ p *ℤ pos e)) (e * q) ≡ 1
whole_coprime m p q e f h =
    let n = unsigned_abs (m *ℤ pos q +ℤ p *ℤ pos e) in
    let left : unsigned_abs (m *ℤ pos q) ≡ unsigned_abs m * q = unsigned_abs-mul m (pos q) in
    let right : unsigned_abs (p *ℤ pos e) ≡ unsigned_abs p =
    unsigned_abs-mul p (pos e) ∙ (ap (λ (d : ℕ). unsigned_abs p * d) f ∙ omega arith) in
    let den : e * q ≡ q = ap (λ (d : ℕ). d * q) f ∙ omega arith in
    let one : IsGcd (unsigned_abs p) q 1 = subst (λ (g : ℕ). IsGcd (unsigned_abs p) q g) h (greatest_common-is (unsigned_abs p) q) in
    let both : IsGcd n q 1 = (
      one-dvd n,
      one-dvd q,
      λ d x y.
          one.2 d (subst (λ (k : ℕ). d ∣ k) right
          (part d (m *ℤ pos q) (p *ℤ pos e)
          (subst (λ (k : ℕ). d ∣ k) (sym left) (dvd-mul_left_of_dvd d y (unsigned_abs m))) x)) y,
    ) in
    ap (greatest_common n) den ∙ same_from_IsGcd n q _ _ (greatest_common-is n q) both

turned : (x y : ℤ) → x +ℤ y ≡ y +ℤ x
turned x y = rw (← diff_self x, ← diff_self y) (simp as_diff (diff_same _ _ _ _ (omega arith)))

pub whole_side : (a b : Exact) (l r n : ℤ) (d : ℕ) → IsFraction a → IsFraction b
    → Some l ≡ bounded (a.num *ℤ pos b.den) → Some r ≡ bounded (b.num *ℤ pos a.den)
    → Some n ≡ bounded (l +ℤ r) → Some d ≡ bounded_size (a.den * b.den)
    → (a.den ≡ 1) ⊎ (b.den ≡ 1) → IsFraction (record { num = n; den = d })
whole_side a b l r n d p q e f g h side =
    let x = crossed a b l r e f in
    let y = bounded_some (l +ℤ r) n g in
    let w = size_some (a.den * b.den) d h in
    let num : n ≡ a.num *ℤ pos b.den +ℤ b.num *ℤ pos a.den = y.1 ∙ x.both in
    let above = product_above a.den b.den p.above q.above in
    let bounded = ltb-true _ _ y.0 in
    let below = ltb-true _ _ w.0 in
    record {
      above = omega (arith, above, w.1);
      below = omega (arith, below, w.1);
      bounded = rw (y.1) bounded;
      coprime = (λ i. greatest_common (unsigned_abs (num i)) (w.1 i)) ∙ by side;
    }
  where
    by : (a.den ≡ 1) ⊎ (b.den ≡ 1) → greatest_common (unsigned_abs (a.num *ℤ pos b.den +ℤ b.num *ℤ pos a.den)) (a.den * b.den) ≡ 1
    by (inl s) = whole_coprime a.num b.num b.den a.den s q.coprime
    by (inr s) =
        (λ i. greatest_common (unsigned_abs (turned (a.num *ℤ pos b.den) (b.num *ℤ pos a.den) i)) (mul_comm a.den b.den i))
        ∙ whole_coprime b.num a.num a.den b.den s p.coprime

-- ---- a factor 1 or -1
unit_product : (a b : Exact) (n : ℤ) (d : ℕ) → a.den ≡ 1 → unsigned_abs a.num ≡ 1 → IsFraction b
    → unsigned_abs n ≡ unsigned_abs a.num * unsigned_abs b.num → d ≡ a.den * b.den → IsFraction (record { num = n; den = d })
unit_product a b n d e f q g h =
    let size : unsigned_abs n ≡ unsigned_abs b.num = g ∙ (ap (λ (k : ℕ). k * unsigned_abs b.num) f ∙ omega arith) in
    let den : d ≡ b.den = h ∙ (ap (λ (k : ℕ). k * b.den) e ∙ omega arith) in
    let above = q.above in
    let below = q.below in
    let bounded = q.bounded in
    record {
      above = omega (arith, den, above);
      below = omega (arith, den, below);
      bounded = omega (arith, size, bounded);
      coprime = (λ i. greatest_common (size i) (den i)) ∙ q.coprime;
    }

pub unit_left : (a b : Exact) (n : ℤ) (d : ℕ) → a.den ≡ 1 → unsigned_abs a.num ≡ 1 → IsFraction b
    → n ≡ a.num *ℤ b.num → d ≡ a.den * b.den → IsFraction (record { num = n; den = d })
unit_left a b n d e f q g h = unit_product a b n d e f q (ap unsigned_abs g ∙ unsigned_abs-mul a.num b.num) h

pub unit_right : (a b : Exact) (n : ℤ) (d : ℕ) → b.den ≡ 1 → unsigned_abs b.num ≡ 1 → IsFraction a
    → n ≡ a.num *ℤ b.num → d ≡ a.den * b.den → IsFraction (record { num = n; den = d })
unit_right a b n d e f q g h =
    unit_product b a n d e f q
    (ap unsigned_abs g ∙ (unsigned_abs-mul a.num b.num ∙ mul_comm (unsigned_abs a.num) (unsigned_abs b.num)))
    (h ∙ mul_comm a.den b.den)

pub as_lowest : (r : Exact) (n : ℤ) (d : ℕ) → IsFraction (record { num = n; den = d })
    → r ≡ record { num = n; den = d } → r ≡ lowest n d
as_lowest r n d p e = e ∙ sym (lowest_coprime n d p.above p.coprime)
