-- Each denominator divides the least common denominator. The file also says when a number can be printed, and when a fraction is in lowest terms.
use Rattle.std.proofs.Common.{◌≡◌, ℕ, zero, suc, ◌+◌, ◌*◌, ◌/◌, ◌<◌, ◌≤◌, List, [], ◌∷◌, length, get_or, drop, drop-cons, max, Bool, true, false, cond, Some, None, refl, sym, ap, subst, ◌∙◌, arith}
use Rattle.std.proofs.{lemmas.Bool.lt-leb, lemmas.Bool.le-leb, lemmas.Bool.leb-true, lemmas.Bool.leb-false, Math.Dec.leb}
use Rattle.std.proofs.{Math.Seq.drop-length, lemmas.Nat.Gcd.dvd_trans, lemmas.Nat.Gcd.dvd_refl, lemmas.Nat.Gcd.le_of_dvd}
use Rattle.std.proofs.Math.Nat.{div-mul_cancel, dvd-mul_left, div-one}
use Prim.Native.Nat.{◌∣◌}
use lib.IntN.{ℤ, pos}
use Rattle.std.specs.{Int.RustNames.unsigned_abs, List.fold}
use Rattle.dd_values.specs.Bounds.{most_number}
use Rattle.dd_fraction.specs.{Divisor.greatest_common, Exact.Exact, Exact.den_of, Exact.lowest, Exact.IsLowest}
use Rattle.dd_fraction.specs.{Checked.IsFraction, Checked.does_pair_fit, Checked.fraction_of, lemmas.Divisors.greatest_common-is}
use Rattle.dd_fraction.specs.lemmas.OrderLaws.{den_above}
use Rattle.dd_discharge.specs.Denominators.{least_common, joined_denominator, common_denominator, printed}

-- ---- a least common multiple is a multiple of both
crossed : (p q g : ℕ) {a b : ℕ} → p * g ≡ a → q * g ≡ b → q * a ≡ p * b
crossed p q g {a} {b} x y = omega (arith, ap (λ (t : ℕ). q * t) x, ap (λ (t : ℕ). p * t) y)

pub least_common_front : (a b : ℕ) → a ∣ least_common a b
least_common_front a b =
    let g = greatest_common a b in
    let d = greatest_common-is a b in
    subst (λ (n : ℕ). a ∣ n) (crossed (a / g) (b / g) g (div-mul_cancel g d.0) (div-mul_cancel g d.1)) (dvd-mul_left a (b / g))

pub least_common_back : (a b : ℕ) → b ∣ least_common a b
least_common_back a b = dvd-mul_left b (a / greatest_common a b)

positive_product : (x y : ℕ) → 0 < x → 0 < y → 0 < x * y
positive_product x y p q = grind arith

front_of : (q g : ℕ) {a : ℕ} → q * g ≡ a → 0 < a → 0 < q
front_of zero g e p = absurd (omega (arith, e, p))
front_of (suc q) g e p = omega arith

pub least_common_above : (a b : ℕ) → 0 < a → 0 < b → 0 < least_common a b
least_common_above a b p q =
    let g = greatest_common a b in
    positive_product (a / g) b (front_of (a / g) g (div-mul_cancel g (greatest_common-is a b).0) p) q

pub joined_above : (n : ℕ) (xs : List Exact) → 0 < n → 0 < fold joined_denominator n xs
joined_above n [] p = p
joined_above n (x ∷ xs) p = joined_above (joined_denominator n x) xs (least_common_above n (den_of x) p (den_above x))

joined_divides : (n : ℕ) (xs : List Exact) → n ∣ fold joined_denominator n xs
joined_divides n [] = dvd_refl n
joined_divides n (x ∷ xs) = dvd_trans n (least_common_front n (den_of x)) (joined_divides (joined_denominator n x) xs)

-- with more denominators, the least common denominator gets no smaller
pub joined_grows : (n : ℕ) (xs : List Exact) → 0 < n → n ≤ fold joined_denominator n xs
joined_grows n xs p = le_of_dvd (joined_above n xs p) (joined_divides n xs)

pub each_divides : (n : ℕ) (xs : List Exact) (k : ℕ) (d : Exact) → k < length xs → den_of (get_or xs k d) ∣ fold joined_denominator n xs
each_divides n [] k d p = absurd (omega (arith, p))
each_divides n (x ∷ xs) zero d p = dvd_trans (den_of x) (least_common_back n (den_of x)) (joined_divides (joined_denominator n x) xs)
each_divides n (x ∷ xs) (suc k) d p = each_divides (joined_denominator n x) xs k d (omega (arith, p))

-- the numerator of n / d in lowest terms, times d, is the least common multiple of n and d
pub ratio_num : (n d : ℕ) (r : Exact) → 0 < d → r ≡ lowest (pos n) d → unsigned_abs r.num * d ≡ least_common n (max 1 d)
unfolding lowest
ratio_num n d r p e =
    let s : max 1 d ≡ d = omega (arith, p) in
    ap (λ (a : Exact). unsigned_abs a.num * d) e ∙ ap (λ (t : ℕ). n / greatest_common n (max 1 d) * t) (sym s)

some_is : (b : Bool) (x r : Exact) → Some r ≡ cond b (Some x) None → r ≡ x
some_is true x r e = cc
some_is false x r e = absurd cc

pub ratio_is : (n d : ℕ) (r : Exact) → Some r ≡ fraction_of (pos n) (pos d) → r ≡ lowest (pos n) d
ratio_is n d r e = some_is (does_pair_fit (pos n) (pos d)) (lowest (pos n) d) r e

-- ---- what can be printed
pub printed_none : (n : ℕ) → most_number < n → None ≡ printed n
printed_none n p = rw (lt-leb n most_number p) refl

pub printed_some : (n : ℕ) → n ≤ most_number → Some n ≡ printed n
printed_some n p = rw (le-leb n most_number p) refl

-- the product that `joined` tests is the least common multiple
pub multiple_is : (n : ℕ) (a r : Exact) (x y s t : ℤ) (u v : ℕ) → IsFraction a → x ≡ pos n → y ≡ pos a.den → Some r ≡ fraction_of x y
    → s ≡ r.num → u ≡ unsigned_abs s → t ≡ pos a.den → v ≡ unsigned_abs t → u * v ≡ joined_denominator n a
multiple_is n a r x y s t u v f px py pr ps pu pt pv =
    let e : r ≡ lowest (pos n) a.den = ratio_is n a.den r (subst (λ (w : ℤ). Some r ≡ fraction_of (pos n) w) py (subst (λ (w : ℤ). Some r ≡ fraction_of w y) px pr)) in
    let left : u ≡ unsigned_abs r.num = pu ∙ ap unsigned_abs ps in
    let right : v ≡ a.den = pv ∙ ap unsigned_abs pt in
    rw (left, right) (ratio_num n a.den r f.above e)

pub printed_is : (n m : ℕ) → Some m ≡ printed n → (m ≡ n) × (n ≤ most_number)
printed_is n m e = by (leb n most_number) refl e
  where
    by : (t : Bool) → leb n most_number ≡ t → Some m ≡ cond t (Some n) None → (m ≡ n) × (n ≤ most_number)
    by true l e = (cc, leb-true n most_number l)
    by false l e = absurd cc

pub unprinted : (n : ℕ) → None ≡ printed n → most_number < n
unprinted n e = by (leb n most_number) refl e
  where
    by : (t : Bool) → leb n most_number ≡ t → None ≡ cond t (Some n) None → most_number < n
    by true l e = absurd cc
    by false l e = leb-false n most_number l

-- x is the fraction at index i; if n joined with all of xs is equal to c joined with the fractions from index i, it is also equal to c joined with x,
-- and then with the fractions after x
pub joined_more : (n c i : ℕ) (xs : List Exact) (x : Exact) → i < length xs → x ≡ get_or xs i x → fold joined_denominator n xs ≡ fold joined_denominator c (drop i xs)
    → fold joined_denominator n xs ≡ fold joined_denominator (joined_denominator c x) (drop (i + 1) xs)
joined_more n c i xs x p e h = h ∙ (ap (fold joined_denominator c) (drop-cons xs i x p) ∙ (ap (λ (y : Exact). fold joined_denominator (joined_denominator c y) (drop (suc i) xs)) (sym e) ∙ ap (λ (k : ℕ). fold joined_denominator (joined_denominator c x) (drop k xs)) (next i)))
  where
    next : (i : ℕ) → suc i ≡ i + 1
    next i = omega arith

-- if the common denominator of the first fractions can't be printed, that of all fractions can't be printed either
pub joined_past : (n c i : ℕ) (xs : List Exact) (x : Exact) → 0 < c → i < length xs → x ≡ get_or xs i x → fold joined_denominator n xs ≡ fold joined_denominator c (drop i xs)
    → None ≡ printed (joined_denominator c x) → None ≡ printed (fold joined_denominator n xs)
joined_past n c i xs x z p e h none =
    let more = joined_more n c i xs x p e h in
    let grows = joined_grows (joined_denominator c x) (drop (i + 1) xs) (least_common_above c (den_of x) z (den_above x)) in
    let past = unprinted (joined_denominator c x) none in
    printed_none (fold joined_denominator n xs) (omega (arith, more, grows, past))

pub joined_whole : (n c : ℕ) (xs : List Exact) → c ≤ most_number → fold joined_denominator n xs ≡ fold joined_denominator c (drop (length xs) xs) → Some c ≡ printed (fold joined_denominator n xs)
joined_whole n c xs p h = let same : c ≡ fold joined_denominator n xs = sym (h ∙ ap (fold joined_denominator c) (drop-length xs)) in printed_some c p ∙ ap printed same

-- ---- a fraction is in lowest terms exactly when reducing it doesn't change its denominator
reduced_coprime : (q g d : ℕ) → q * g ≡ d → 0 < d → q ≡ d → g ≡ 1
reduced_coprime q zero d e p s = absurd (omega (arith, e, p))
reduced_coprime q (suc zero) d e p s = refl
reduced_coprime zero (suc (suc g)) d e p s = absurd (omega (arith, s, p))
reduced_coprime (suc q) (suc (suc g)) d e p s = absurd (omega (arith, e, s))

denominator_positive : (n d : ℕ) (r : Exact) → Some r ≡ fraction_of (pos n) (pos d) → 0 < d
denominator_positive n zero r e = absurd cc
denominator_positive n (suc d) r e = omega arith

pub own_reduction : (n d : ℕ) (r : Exact) → Some r ≡ fraction_of (pos n) (pos d) → r.den ≡ d → IsLowest (record { num = pos n; den = d })
unfolding lowest
own_reduction n d r e s =
    let p = denominator_positive n d r e in
    let one : max 1 d ≡ d = omega (arith, p) in
    let is : r.den ≡ max 1 d / greatest_common n (max 1 d) = ap (λ (a : Exact). a.den) (ratio_is n d r e) in
    let whole : max 1 d / greatest_common n (max 1 d) * greatest_common n (max 1 d) ≡ max 1 d = div-mul_cancel (greatest_common n (max 1 d)) (greatest_common-is n (max 1 d)).1 in
    let coprime : greatest_common n (max 1 d) ≡ 1 = reduced_coprime (max 1 d / greatest_common n (max 1 d)) (greatest_common n (max 1 d)) (max 1 d) whole (omega arith) (sym is ∙ (s ∙ sym one)) in
    record { positive = p; coprime = subst (λ (m : ℕ). greatest_common n m ≡ 1) one coprime }

pub other_reduction : (n d : ℕ) (r : Exact) → Some r ≡ fraction_of (pos n) (pos d) → (r.den ≡ d → ⊥) → IsLowest (record { num = pos n; den = d }) → ⊥
unfolding lowest
other_reduction n d r e differ l =
    let p = l.positive in
    let one : max 1 d ≡ d = omega (arith, p) in
    let is : r.den ≡ max 1 d / greatest_common n (max 1 d) = ap (λ (a : Exact). a.den) (ratio_is n d r e) in
    let coprime = l.coprime in
    differ (is ∙ (ap (λ (m : ℕ). m / greatest_common n m) one ∙ (ap (λ (g : ℕ). d / g) coprime ∙ div-one d)))
