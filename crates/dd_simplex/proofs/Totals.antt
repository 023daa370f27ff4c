-- Sums of the first n values of a function.
use Rattle.std.proofs.Common.{◌≡◌, ◌≢◌, ℕ, zero, suc, ◌+◌, ◌<◌, Bool, true, cond, ⊎_elim, refl, sym, ap, subst, ◌∙◌, arith}
use Rattle.std.proofs.lemmas.{Bool.cases_eq, Int.ints}
use Rattle.std.specs.Bool.{nat_eq}
use Rattle.dd_fraction.specs.{Exact.Exact, Exact.plus, Exact.times, Exact.low, Order.IsNonneg}
use Rattle.dd_fraction.specs.lemmas.Laws.{plus_assoc, times_comm, times_plus, plus_times, zero_plus, plus_zero, times_zero, times_assoc, plus_four, plus_low_left, plus_low_right, low_plus}
use Rattle.dd_fraction.specs.lemmas.{Lowest.zero_is, OrderLaws.nonneg_plus}
use Rattle.dd_simplex.specs.Programs.{fraction_sum, zero_of}
use Rattle.dd_values.specs.lemmas.Booleans.{eq_other}

pub eq_same : (v : ℕ) → nat_eq v v ≡ true
eq_same v = grind arith

pub zero_zero : plus zero_of zero_of ≡ zero_of
zero_zero = zero_plus zero_of ∙ zero_is

pub zero_nonneg : IsNonneg zero_of
zero_nonneg = record { sign = omega (arith, ints) }

pub total_low : (f : ℕ → Exact) (n : ℕ) → low (fraction_sum f n) ≡ fraction_sum f n
total_low f zero = zero_is
total_low f (suc n) = low_plus (fraction_sum f n) (f n)

pub total_same : (f g : ℕ → Exact) (n : ℕ) → ((v : ℕ) → v < n → f v ≡ g v) → fraction_sum f n ≡ fraction_sum g n
total_same f g zero h = refl
total_same f g (suc n) h = λ i. plus (total_same f g n (λ v p. h v (omega (arith, p))) i) (h n (omega arith) i)

pub total_none : (f : ℕ → Exact) (n : ℕ) → ((v : ℕ) → v < n → f v ≡ zero_of) → fraction_sum f n ≡ zero_of
total_none f zero h = refl
total_none f (suc n) h = (λ i. plus (total_none f n (λ v p. h v (omega (arith, p))) i) (h n (omega arith) i)) ∙ zero_zero

pub total_plus : (f g : ℕ → Exact) (n : ℕ) → fraction_sum (λ v. plus (f v) (g v)) n ≡ plus (fraction_sum f n) (fraction_sum g n)
total_plus f g zero = sym zero_zero
total_plus f g (suc n) = ap (λ (t : Exact). plus t (plus (f n) (g n))) (total_plus f g n) ∙ plus_four (fraction_sum f n) (fraction_sum g n) (f n) (g n)

pub total_times : (k : Exact) (f : ℕ → Exact) (n : ℕ) → fraction_sum (λ v. times k (f v)) n ≡ times k (fraction_sum f n)
total_times k f zero = sym (times_zero k)
total_times k f (suc n) = ap (λ (t : Exact). plus t (times k (f n))) (total_times k f n) ∙ sym (times_plus k (fraction_sum f n) (f n))

-- a sum with at most one term that isn't 0
pub total_pick : (f : ℕ → Exact) (w n : ℕ) → w < n → ((v : ℕ) → v < n → v ≢ w → f v ≡ zero_of) → fraction_sum f n ≡ low (f w)
total_pick f w zero p h = absurd (omega (arith, p))
total_pick f w (suc n) p h = ⊎_elim
    (λ (s : n ≡ w).
    (λ i. plus (total_none f n (λ v q. h v (omega (arith, q)) (λ (t : v ≡ w). omega (arith, q, s, t))) i) (f (s i)))
    ∙ zero_plus (f w))
    (λ (s : n ≢ w).
    (λ i. plus (total_pick f w n (omega (arith, p, s)) (λ v q. h v (omega (arith, q))) i) (h n (omega arith) s i))
    ∙ (plus_low_left (f w) zero_of ∙ plus_zero (f w)))
    (cases_eq n w)

-- a sum of n + m numbers: the first n, and then m more
pub total_split : (f : ℕ → Exact) (n m : ℕ) → fraction_sum f (n + m) ≡ plus (fraction_sum f n) (fraction_sum (λ k. f (n + k)) m)
total_split f n zero = ap (fraction_sum f) (add_zero n) ∙ (sym (total_low f n) ∙ sym (plus_zero (fraction_sum f n)))
  where
    add_zero : (n : ℕ) → n + 0 ≡ n
    add_zero n = omega arith
total_split f n (suc m) =
    ap (fraction_sum f) (add_suc n m) ∙ (ap (λ (t : Exact). plus t (f (n + m))) (total_split f n m) ∙ plus_assoc (fraction_sum f n) (fraction_sum (λ k. f (n + k)) m) (f (n + m)))
  where
    add_suc : (n m : ℕ) → n + suc m ≡ suc (n + m)
    add_suc n m = omega arith

pub total_nonneg : (f : ℕ → Exact) (n : ℕ) → ((v : ℕ) → v < n → IsNonneg (f v)) → IsNonneg (fraction_sum f n)
total_nonneg f zero h = zero_nonneg
total_nonneg f (suc n) h = nonneg_plus (fraction_sum f n) (f n) (total_nonneg f n (λ v p. h v (omega (arith, p)))) (h n (omega arith))

-- a sum of coefficients times values: if each coefficient is multiplied by k, so is the sum
pub sum_scaled : (f g x : ℕ → Exact) (k : Exact) (n : ℕ) → ((w : ℕ) → w < n → f w ≡ times (g w) k)
    → fraction_sum (λ w. times (f w) (x w)) n ≡ times (fraction_sum (λ w. times (g w) (x w)) n) k
sum_scaled f g x k n h =
    total_same (λ w. times (f w) (x w)) (λ w. times k (times (g w) (x w))) n
    (λ w p. ap (λ (t : Exact). times t (x w)) (h w p ∙ times_comm (g w) k) ∙ times_assoc k (g w) (x w))
    ∙ (total_times k (λ w. times (g w) (x w)) n ∙ times_comm k (fraction_sum (λ w. times (g w) (x w)) n))

-- if q times b w is added to each coefficient g w, then q times the sum for b is added to the sum for g
pub sum_with : (f g b x : ℕ → Exact) (q : Exact) (n : ℕ) → ((w : ℕ) → w < n → f w ≡ plus (g w) (times q (b w)))
    → fraction_sum (λ w. times (f w) (x w)) n ≡ plus (fraction_sum (λ w. times (g w) (x w)) n) (times q (fraction_sum (λ w. times (b w) (x w)) n))
sum_with f g b x q n h =
    total_same (λ w. times (f w) (x w)) (λ w. plus (times (g w) (x w)) (times q (times (b w) (x w)))) n
    (λ w p. ap (λ (t : Exact). times t (x w)) (h w p) ∙ (plus_times (g w) (times q (b w)) (x w) ∙ ap (plus (times (g w) (x w))) (times_assoc q (b w) (x w))))
    ∙ (total_plus (λ w. times (g w) (x w)) (λ w. times q (times (b w) (x w))) n
    ∙ ap (plus (fraction_sum (λ w. times (g w) (x w)) n)) (total_times q (λ w. times (b w) (x w)) n))

low_each : (f : ℕ → Exact) (n : ℕ) → fraction_sum (λ v. low (f v)) n ≡ fraction_sum f n
low_each f zero = refl
low_each f (suc n) = plus_low_right (fraction_sum (λ v. low (f v)) n) (f n) ∙ ap (λ (t : Exact). plus t (f n)) (low_each f n)

-- a sum with at most two terms that aren't 0
pub total_two : (f : ℕ → Exact) (a b n : ℕ) → a < n → b < n → a ≢ b → ((v : ℕ) → v < n → v ≢ a → v ≢ b → f v ≡ zero_of) → fraction_sum f n ≡ plus (f a) (f b)
total_two f a b n p q ab h =
    sym (low_each f n)
    ∙ (total_same (λ v. low (f v)) (λ v. plus (at a v) (at b v)) n split
    ∙ (total_plus (at a) (at b) n
    ∙ ((λ i. plus (alone a p i) (alone b q i)) ∙ (plus_low_left (f a) (low (f b)) ∙ plus_low_right (f a) (f b)))))
  where
    at : ℕ → ℕ → Exact
    at a v = cond (nat_eq v a) (f v) zero_of

    same : (a : ℕ) → at a a ≡ f a
    same a = ap (λ (t : Bool). cond t (f a) zero_of) (eq_same a)

    other : (a v : ℕ) → v ≢ a → at a v ≡ zero_of
    other a v k = ap (λ (t : Bool). cond t (f v) zero_of) (eq_other v a k)

    alone : (a : ℕ) → a < n → fraction_sum (at a) n ≡ low (f a)
    alone a p = total_pick (at a) a n p (λ v _ k. other a v k) ∙ ap low (same a)

    split : (v : ℕ) → v < n → low (f v) ≡ plus (at a v) (at b v)
    split v r = ⊎_elim
        (λ (s : v ≡ a). subst (λ (u : ℕ). low (f u) ≡ plus (at a u) (at b u)) (sym s)
        (sym ((λ i. plus (same a i) (other b a ab i)) ∙ plus_zero (f a))))
        (λ (k : v ≢ a). ⊎_elim
        (λ (s : v ≡ b). subst (λ (u : ℕ). low (f u) ≡ plus (at a u) (at b u)) (sym s)
        (sym ((λ i. plus (other a b (λ (u : b ≡ a). ab (sym u)) i) (same b i)) ∙ zero_plus (f b))))
        (λ (l : v ≢ b). ap low (h v r k l) ∙ (zero_is ∙ sym ((λ i. plus (other a v k i) (other b v l i)) ∙ zero_zero)))
        (cases_eq v b))
        (cases_eq v a)
