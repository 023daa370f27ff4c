-- The fractions that calls return are in lowest terms and bounded.
use Rattle.std.proofs.Common.{◌≡◌, ◌≢◌, ℕ, zero, suc, ◌*◌, ◌^◌, ◌<◌, refl, sym, ap, subst, ◌∙◌, arith, Some, Bool, true, false, ◌&&◌}
use lib.IntN.{ℤ, pos, negsuc, neg_ℤ, ◌+ℤ◌, ◌*ℤ◌}
use Rattle.std.specs.Int.RustNames.{unsigned_abs}
use Rattle.std.proofs.lemmas.Bool.{ltb-true}
use Rattle.dd_fraction.specs.Divisor.{greatest_common}
use Rattle.dd_fraction.specs.Exact.{Exact, den_of, lowest, times, plus, minus, inverse, one_over}
use Rattle.dd_fraction.specs.Checked.{IsFraction, is_bounded, does_product_fit, does_sum_fit, checked_product, checked_sum}
use Rattle.dd_fraction.specs.lemmas.Lowest.{lowest_at}
use Rattle.dd_fraction.specs.lemmas.Results.{lowest_fraction, inverted, kept, times_at, plus_at}
use Rattle.dd_fraction.specs.lemmas.Ring.{product_above}

both : (s t : Bool) → (s && t) ≡ true → (s ≡ true) × (t ≡ true)
both true t e = (refl, e)
both false t e = absurd cc

fits : (z : ℤ) → is_bounded z ≡ true → unsigned_abs z < 2 ^ 127
fits z e = ltb-true _ _ e

pub IsFraction-lowest : (n : ℤ) (d : ℕ) → 0 < d → d < 2 ^ 127 → unsigned_abs n < 2 ^ 127 → IsFraction (lowest n d)
IsFraction-lowest n d p q r = subst IsFraction (sym (lowest_at n d p)) (lowest_fraction n d p q r)

pub IsFraction-checked_product : (a b c : Exact) → 0 < a.den → 0 < b.den → Some c ≡ checked_product a b → IsFraction c
IsFraction-checked_product a b c p q e =
    let k = kept (does_product_fit a b) c (times a b) e in
    let t = both (is_bounded (a.num *ℤ b.num)) (is_bounded (pos (a.den * b.den))) k.0 in
    let made : lowest (a.num *ℤ b.num) (a.den * b.den) ≡ c = times_at a b _ _ p q refl refl ∙ sym k.1 in
    subst IsFraction made
    (IsFraction-lowest _ _ (product_above a.den b.den p q) (fits (pos (a.den * b.den)) t.1) (fits (a.num *ℤ b.num) t.0))

pub IsFraction-checked_sum : (a b c : Exact) → 0 < a.den → 0 < b.den → Some c ≡ checked_sum a b → IsFraction c
IsFraction-checked_sum a b c p q e =
    let k = kept (does_sum_fit a b) c (plus a b) e in
    let n = a.num *ℤ pos b.den +ℤ b.num *ℤ pos a.den in
    let over = is_bounded (pos (a.den * b.den)) in
    let cross = is_bounded (b.num *ℤ pos a.den) in
    let rest = both (is_bounded (a.num *ℤ pos b.den)) (cross && (is_bounded n && over)) k.0 in
    let last = both cross (is_bounded n && over) rest.1 in
    let t = both (is_bounded n) over last.1 in
    let made : lowest n (a.den * b.den) ≡ c = plus_at a b _ _ p q refl refl ∙ sym k.1 in
    subst IsFraction made
    (IsFraction-lowest _ _ (product_above a.den b.den p q) (fits (pos (a.den * b.den)) t.1) (fits n t.0))

pub size_minus : (n : ℤ) → unsigned_abs (neg_ℤ n) ≡ unsigned_abs n
size_minus (pos zero) = refl
size_minus (pos (suc n)) = refl
size_minus (negsuc n) = refl

pub IsFraction-minus : (a : Exact) → IsFraction a → IsFraction (minus a)
IsFraction-minus a p =
    let e = size_minus a.num in
    let bounded = p.bounded in
    record {
      above = p.above;
      below = p.below;
      bounded = omega (arith, e, bounded);
      coprime = ap (λ (x : ℕ). greatest_common x a.den) e ∙ p.coprime;
    }

pub IsFraction-inverse : (a : Exact) → IsFraction a → a.num ≢ pos 0 → IsFraction (inverse a)
IsFraction-inverse a p n = by a.num refl n
  where
    whole : den_of a ≡ a.den
    whole = omega (arith, p.above)

    by : (m : ℤ) → m ≡ a.num → m ≢ pos 0 → IsFraction (one_over m (den_of a))
    by (pos zero) e n = absurd (n refl)
    by (pos (suc m)) e n = inverted a (pos (den_of a)) (suc m) p (omega arith) (ap unsigned_abs e) whole
    by (negsuc m) e n =
        inverted a (neg_ℤ (pos (den_of a))) (suc m) p (omega arith) (ap unsigned_abs e) (size_minus (pos (den_of a)) ∙ whole)
