-- What holds for each dictionary that a run reaches. Its bounds are at least 0, its equations have the same solutions as those of the first
-- dictionary, and at each solution its objective is equal to column 0.
use Rattle.std.proofs.Common.{◌≡◌, ◌≢◌, ℕ, zero, suc, ◌+◌, ◌-◌, ◌<◌, ◌≤◌, length, Bool, true, false, not, ◌&&◌, ◌||◌, Some, None, ◌⊎◌, inl, inr, ⊎_elim, refl, sym, ap, subst, ◌∙◌, arith}
use Rattle.std.proofs.lemmas.{Bool.cases_eq, Int.ints}
use Rattle.std.specs.{Bool.nat_lt, Ordering.is_gt, Int.RustNames.int_lt, declared.cmp.Ordering.Ordering}
use Rattle.std.specs.declared.cmp.Ordering.TheVariants.{Less, Equal, Greater}
use lib.IntN.{ℤ, pos, negsuc, neg_ℤ}
use lib.Signed.{◌≤ℤ◌, ◌<ℤ◌}
use Rattle.dd_fraction.specs.Exact.{Exact, plus, times, minus, inverse, low}
use Rattle.dd_fraction.specs.Order.{IsNonneg, IsPositive, IsAtMost, IsBelow, exact_cmp}
use Rattle.dd_fraction.specs.lemmas.Laws.{times_comm, times_assoc, times_plus, zero_plus, zero_times, times_zero, one_times, plus_low_left, plus_low_right, minus_times, minus_times_right}
use Rattle.dd_fraction.specs.lemmas.Lowest.{low_low}
use Rattle.dd_fraction.specs.lemmas.OrderLaws.{nonneg_plus, nonneg_times, positive_nonneg, positive_inverse, times_inverse_positive, at_most_gap, below_or_at_most, below_not_at_most, exact_cmp_ranked, exact_cmp-above}
use Rattle.dd_simplex.specs.Programs.{LinearProgram, IsProgram, coefficient, bound_at, fraction_sum, zero_of, one_of}
use Rattle.dd_simplex.specs.Dictionaries.{Dictionary, count, start_dictionary, pivoted, new_bound, less_product}
use Rattle.dd_simplex.specs.Runs.{is_over, may_enter, entering, ratio, is_limiting, may_leave, leaving, all_below}
use Rattle.dd_simplex.specs.Laws.{dictionary_coefficient, price}
use Rattle.dd_simplex.proofs.Totals.{eq_same, total_same, total_pick, total_split, zero_nonneg}
use Rattle.dd_simplex.proofs.Firsts.{and_left, and_right, all_at, first_some, first_none}
use Rattle.dd_simplex.proofs.Equations.{left_side, Holds, objective, IsPivot, pivot_forth, pivot_back, pivot_objective, then_other, then_leaving, apart, true_false}
use Rattle.dd_values.specs.lemmas.Booleans.{not_true, lt_yes, lt_no, eq_other}

pub record IsReached (p : LinearProgram) (d : Dictionary) : Type 0 where
  pub bounds : (v : ℕ) → v < count p → d.is_basic v ≡ true → IsNonneg (d.bound v)
  pub forth : (s : Exact) (x : ℕ → Exact) → Holds (count p) (start_dictionary p) s x → Holds (count p) d s x
  pub back : (s : Exact) (x : ℕ → Exact) → Holds (count p) d s x → Holds (count p) (start_dictionary p) s x
  pub worth : (s : Exact) (x : ℕ → Exact) → Holds (count p) (start_dictionary p) s x → objective (count p) d s x ≡ low (x 0)

lt_from : (v n : ℕ) → not (nat_lt v n) ≡ true → n ≤ v
lt_from v n h = grind (arith, h)

pub start_column : (p : LinearProgram) (j : ℕ) → j < p.columns → (start_dictionary p).is_basic j ≡ false
start_column p j h = rw (lt_yes j p.columns h) refl

pub start_slack : (p : LinearProgram) (k : ℕ) → (start_dictionary p).is_basic (p.columns + k) ≡ true
start_slack p k = rw (lt_no (p.columns + k) p.columns (omega arith)) refl

take_off : (n k : ℕ) → n + k - n ≡ k
take_off n k = omega arith

put_on : (n v : ℕ) → n ≤ v → n + (v - n) ≡ v
put_on n v p = omega arith

-- the left side of a row of the first dictionary is the left side of the program's row plus its slack
pub start_row : (p : LinearProgram) (k : ℕ) (x : ℕ → Exact) → k < length p.rows
    → left_side (count p) (start_dictionary p) x (p.columns + k) ≡ plus (fraction_sum (λ j. times (coefficient p k j) (x j)) p.columns) (x (p.columns + k))
start_row p k x h =
    total_split (λ w. times (dictionary_coefficient (start_dictionary p) (p.columns + k) w) (x w)) p.columns (length p.rows)
    ∙ ((λ i. plus (columns i) (slacks i)) ∙ (plus_low_right T (times one_of (x (p.columns + k))) ∙ (ap (plus T) (one_times (x (p.columns + k))) ∙ plus_low_right T (x (p.columns + k)))))
  where
    T : Exact
    T = fraction_sum (λ j. times (coefficient p k j) (x j)) p.columns

    at : (j : ℕ) → j < p.columns → dictionary_coefficient (start_dictionary p) (p.columns + k) j ≡ coefficient p k j
    at j q = rw (eq_other j (p.columns + k) (λ (s : j ≡ p.columns + k). omega (arith, s, q)), lt_yes j p.columns q, take_off p.columns k) refl

    columns : fraction_sum (λ w. times (dictionary_coefficient (start_dictionary p) (p.columns + k) w) (x w)) p.columns ≡ T
    columns = total_same (λ w. times (dictionary_coefficient (start_dictionary p) (p.columns + k) w) (x w)) (λ j. times (coefficient p k j) (x j)) p.columns (λ j q. ap (λ (t : Exact). times t (x j)) (at j q))

    one : dictionary_coefficient (start_dictionary p) (p.columns + k) (p.columns + k) ≡ one_of
    one = rw (eq_same (p.columns + k)) refl

    none : (i : ℕ) → i < length p.rows → i ≢ k → times (dictionary_coefficient (start_dictionary p) (p.columns + k) (p.columns + i)) (x (p.columns + i)) ≡ zero_of
    none i q s =
        rw (eq_other (p.columns + i) (p.columns + k) (λ (u : p.columns + i ≡ p.columns + k). s (omega (arith, u))), lt_no (p.columns + i) p.columns (omega arith))
        (zero_times (x (p.columns + i)))

    slacks : fraction_sum (λ i. times (dictionary_coefficient (start_dictionary p) (p.columns + k) (p.columns + i)) (x (p.columns + i))) (length p.rows) ≡ low (times one_of (x (p.columns + k)))
    slacks =
        total_pick (λ i. times (dictionary_coefficient (start_dictionary p) (p.columns + k) (p.columns + i)) (x (p.columns + i))) k (length p.rows) h none
        ∙ ap (λ (t : Exact). low (times t (x (p.columns + k)))) one

-- if, for each row of the program, its left side plus its slack is equal to s times its bound, the columns and slacks solve the equations of the
-- first dictionary, with the bound of each equation multiplied by s
pub start_holds : (p : LinearProgram) (s : Exact) (x : ℕ → Exact)
    → ((k : ℕ) → k < length p.rows → plus (fraction_sum (λ j. times (coefficient p k j) (x j)) p.columns) (x (p.columns + k)) ≡ times s (bound_at p k))
    → Holds (count p) (start_dictionary p) s x
start_holds p s x h v q b =
    let low : p.columns ≤ v = lt_from v p.columns b in
    let k = v - p.columns in
    let r : k < length p.rows = omega (arith, q, low) in
    subst (λ (u : ℕ). left_side (count p) (start_dictionary p) x u ≡ times s (bound_at p k)) (put_on p.columns v low) (start_row p k x r ∙ h k r)

pub start_says : (p : LinearProgram) (s : Exact) (x : ℕ → Exact) → Holds (count p) (start_dictionary p) s x → (k : ℕ) → k < length p.rows
    → plus (fraction_sum (λ j. times (coefficient p k j) (x j)) p.columns) (x (p.columns + k)) ≡ times s (bound_at p k)
start_says p s x h k q =
    sym (start_row p k x q) ∙ (h (p.columns + k) (omega (arith, q)) (start_slack p k) ∙ ap (λ (i : ℕ). times s (bound_at p i)) (take_off p.columns k))

pub reached_start : (p : LinearProgram) → IsProgram p → IsReached p (start_dictionary p)
reached_start p g = record {
  bounds = λ v q b. let low : p.columns ≤ v = lt_from v p.columns b in g.bounds (v - p.columns) (omega (arith, q, low));
  forth = λ s x h. h;
  back = λ s x h. h;
  worth = λ s x h.
      (λ i. plus (times_zero s i) (total_pick (λ w. times (price (start_dictionary p) w) (x w)) 0 (count p) (omega (arith, g.wide)) (none x) i))
      ∙ (zero_plus _ ∙ (low_low _ _ ∙ ap low (ap (λ (t : Exact). times t (x 0)) first ∙ one_times (x 0)) ∙ low_low _ _));
}
  where
    first : price (start_dictionary p) 0 ≡ one_of
    first = rw (lt_yes 0 p.columns g.wide) refl

    none : (x : ℕ → Exact) (w : ℕ) → w < count p → w ≢ 0 → times (price (start_dictionary p) w) (x w) ≡ zero_of
    none x w q s = by (nat_lt w p.columns) refl
      where
        by : (b : Bool) → nat_lt w p.columns ≡ b → times (price (start_dictionary p) w) (x w) ≡ zero_of
        by true e = rw (e, eq_other 0 w (λ (u : 0 ≡ w). s (sym u))) (zero_times (x w))
        by false e = rw e (zero_times (x w))

-- ---- a pivot
sign_cases : (n : ℤ) → (pos 0 <ℤ n) ⊎ (pos 0 ≤ℤ neg_ℤ n)
sign_cases (pos zero) = inr (omega (arith, ints))
sign_cases (pos (suc n)) = inl (omega (arith, ints))
sign_cases (negsuc n) = inr (omega (arith, ints))

-- Let b and y be at least 0. If a is greater than 0, let y be at most b / a. Then b - a · y is at least 0.
bound_sign : (a b y : Exact) → IsNonneg b → IsNonneg y → (IsPositive a → IsAtMost y (times b (inverse a))) → IsNonneg (less_product b a y)
bound_sign a b y p q least = ⊎_elim up down (sign_cases a.num)
  where
    up : pos 0 <ℤ a.num → IsNonneg (plus b (minus (times a y)))
    up s =
        let h : IsPositive a = record { sign = s } in
        let k = inverse a in
        let t : IsNonneg (times a (plus (times b k) (minus y))) = nonneg_times a _ (positive_nonneg a h) (at_most_gap y (times b k) (least h)) in
        let whole : times a (times b k) ≡ low b =
        ap (times a) (times_comm b k) ∙ (sym (times_assoc a k b) ∙ (ap (λ (x : Exact). times x b) (times_inverse_positive a h) ∙ one_times b)) in
        subst IsNonneg
        (times_plus a (times b k) (minus y) ∙ ((λ i. plus (whole i) (sym (minus_times_right a y) i)) ∙ plus_low_left b (minus (times a y)))) t

    down : pos 0 ≤ℤ neg_ℤ a.num → IsNonneg (plus b (minus (times a y)))
    down s = nonneg_plus b _ p (subst IsNonneg (sym (minus_times a y)) (nonneg_times (minus a) y (record { sign = s }) q))

-- a pivot in which e enters and r leaves, and no limiting variable has a smaller ratio than r
pub record IsLeast (n : ℕ) (d : Dictionary) (e r : ℕ) : Type 0 where
  pub pivot : IsPivot n d e r
  pub least : (v : ℕ) → v < n → d.is_basic v ≡ true → IsPositive (d.entry v e) → IsAtMost (ratio d e r) (ratio d e v)

pub reached_pivot : (p : LinearProgram) (d : Dictionary) (e r : ℕ) → IsReached p d → IsLeast (count p) d e r → IsReached p (pivoted d e r)
reached_pivot p d e r g l = record {
  bounds = bounds;
  forth = λ s x h. pivot_forth n d e r s x l.pivot (g.forth s x h);
  back = λ s x h. g.back s x (pivot_back n d e r s x l.pivot h);
  worth = λ s x h. pivot_objective n d e r s x l.pivot (g.forth s x h) ∙ g.worth s x h;
}
  where
    n : ℕ
    n = count p

    y : IsNonneg (new_bound d e r)
    y = nonneg_times (d.bound r) (inverse (d.entry r e)) (g.bounds r l.pivot.leaving l.pivot.basic) (positive_nonneg _ (positive_inverse (d.entry r e) l.pivot.positive))

    bounds : (v : ℕ) → v < count p → (pivoted d e r).is_basic v ≡ true → IsNonneg ((pivoted d e r).bound v)
    bounds v q b = ⊎_elim
        (λ (s : v ≡ e). subst (λ (u : ℕ). IsNonneg ((pivoted d e r).bound u)) (sym s) (rw (eq_same e) y))
        (λ (f : v ≢ e).
        let vr : v ≢ r = λ (u : v ≡ r). true_false (sym b ∙ (ap (pivoted d e r).is_basic u ∙ then_leaving d e r (apart d r e l.pivot.basic l.pivot.free) l.pivot.basic)) in
        let old : d.is_basic v ≡ true = sym (then_other d e r v f vr) ∙ b in
        rw (eq_other v e f) (bound_sign (d.entry v e) (d.bound v) (new_bound d e r) (g.bounds v q old) y (l.least v q old)))
        (cases_eq v e)

-- ---- what the choices of the entering and the leaving variable mean
pub over_positive : (a : Exact) → is_over a ≡ true → IsPositive a
over_positive a e = record { sign = omega (arith, ints, e) }

pub positive_over : (a : Exact) → IsPositive a → is_over a ≡ true
positive_over a p = let s = p.sign in grind (arith, ints, s)

pub not_over : (a : Exact) → is_over a ≡ false → IsNonneg (minus a)
not_over a e = record { sign = at a.num e }
  where
    at : (n : ℤ) → int_lt (pos 0) n ≡ false → pos 0 ≤ℤ neg_ℤ n
    at n h = omega (arith, ints, h)

pub record Enters (n : ℕ) (d : Dictionary) (e : ℕ) : Type 0 where
  pub within : e < n
  pub free : d.is_basic e ≡ false
  pub cost : IsPositive (d.cost e)

pub entering_is : (n : ℕ) (d : Dictionary) (e : ℕ) → entering n d ≡ Some e → Enters n d e
entering_is n d e h =
    let f = first_some (may_enter d) n e h in
    record {
      within = f.0;
      free = not_true (d.is_basic e) (and_left (not (d.is_basic e)) (is_over (d.cost e)) f.1);
      cost = over_positive (d.cost e) (and_right (not (d.is_basic e)) (is_over (d.cost e)) f.1);
    }

-- if no variable enters, no price is greater than 0
pub entering_none : (n : ℕ) (d : Dictionary) (w : ℕ) → entering n d ≡ None → w < n → IsNonneg (minus (price d w))
entering_none n d w h q = by (d.is_basic w) refl
  where
    by : (b : Bool) → d.is_basic w ≡ b → IsNonneg (minus (price d w))
    by true e = rw e zero_nonneg
    by false e =
        let f : (not (d.is_basic w) && is_over (d.cost w)) ≡ false = first_none (may_enter d) n w h q in
        let g : is_over (d.cost w) ≡ false = ap (λ (b : Bool). not b && is_over (d.cost w)) (sym e) ∙ f in
        rw e (not_over (d.cost w) g)

pub at_most_test : (a b : Exact) → not (is_gt (exact_cmp a b)) ≡ true → IsAtMost a b
at_most_test a b h = ⊎_elim
    (λ (s : IsBelow b a). let k : not (is_gt Greater) ≡ true = ap (λ (o : Ordering). not (is_gt o)) (sym (exact_cmp-above a b s)) ∙ h in absurd cc)
    (λ (s : IsAtMost a b). s)
    (below_or_at_most b a)

greater : (a b : Exact) → exact_cmp a b ≡ Greater → IsAtMost a b → ⊥
greater a b e s =
    let r = exact_cmp_ranked a b Greater (sym e) in below_not_at_most b a r s

pub test_at_most : (a b : Exact) → IsAtMost a b → not (is_gt (exact_cmp a b)) ≡ true
test_at_most a b s = by (exact_cmp a b) refl
  where
    by : (o : Ordering) → exact_cmp a b ≡ o → not (is_gt (exact_cmp a b)) ≡ true
    by Less e = rw e refl
    by Equal e = rw e refl
    by Greater e = absurd (greater a b e s)

pub leaving_is : (n : ℕ) (d : Dictionary) (e r : ℕ) → Enters n d e → leaving n d e ≡ Some r → IsLeast n d e r
leaving_is n d e r g h =
    let f = first_some (may_leave n d e) n r h in
    let all = all_below (λ u. not (is_limiting d e u) || not (is_gt (exact_cmp (ratio d e r) (ratio d e u)))) n in
    let limit : is_limiting d e r ≡ true = and_left (is_limiting d e r) all f.1 in
    let least : all ≡ true = and_right (is_limiting d e r) all f.1 in
    record {
      pivot = record {
        entering = g.within;
        leaving = f.0;
        free = g.free;
        basic = and_left (d.is_basic r) (is_over (d.entry r e)) limit;
        positive = over_positive (d.entry r e) (and_right (d.is_basic r) (is_over (d.entry r e)) limit);
      };
      least = λ v q b s.
          let at = all_at (λ u. not (is_limiting d e u) || not (is_gt (exact_cmp (ratio d e r) (ratio d e u)))) n v least q in
          let this : is_limiting d e v ≡ true = rw (b, positive_over (d.entry v e) s) refl in
          at_most_test (ratio d e r) (ratio d e v) (ap (λ (t : Bool). not t || not (is_gt (exact_cmp (ratio d e r) (ratio d e v)))) (sym this) ∙ at);
    }
