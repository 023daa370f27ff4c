-- In each dictionary that a run reaches, the rows are linear combinations of the program's rows, and the objective is column 0, less such a
-- combination. At the end, the columns have feasible values, and the duals are feasible. The dual objective is equal to the value of column 0. So no
-- other feasible values of the columns give column 0 a greater value.
use Rattle.std.proofs.Common.{◌≡◌, ◌≢◌, ℕ, zero, suc, ◌+◌, ◌-◌, ◌<◌, List, length, Bool, true, false, cond, None, refl, sym, ap, subst, ◌∙◌, arith}
use Rattle.std.specs.Bool.{nat_lt}
use Rattle.dd_fraction.specs.{Exact.Exact, Exact.plus, Exact.times, Exact.minus, Exact.low, Order.IsNonneg, Order.IsAtMost}
use Rattle.dd_fraction.specs.lemmas.Laws.{plus_comm, zero_plus, plus_zero, zero_times, times_zero, times_one, one_times, plus_minus, plus_undo, plus_cancel, plus_low_left, low_plus, low_times, minus_minus, minus_plus, minus_times, minus_times_right}
use Rattle.dd_fraction.specs.lemmas.Lowest.{low_low, zero_is}
use Rattle.dd_fraction.specs.lemmas.OrderLaws.{nonneg_lowest, nonneg_plus, nonneg_times, at_most_gap, at_most_from_gap}
use Rattle.dd_simplex.specs.Programs.{LinearProgram, IsProgram, IsFeasible, IsBest, fraction_at, coefficient, bound_at, unit, fraction_sum, zero_of, one_of}
use Rattle.dd_simplex.specs.{Dictionaries.Dictionary, Dictionaries.count, Runs.entering, Runs.column_of, Runs.dual_of}
use Rattle.dd_simplex.specs.Laws.{dictionary_coefficient, price}
use Rattle.dd_simplex.proofs.Totals.{eq_same, total_low, total_same, total_none, total_pick, total_split, total_nonneg, zero_nonneg}
use Rattle.dd_simplex.proofs.{Equations.Holds, Reaching.IsReached, Reaching.start_holds, Reaching.start_says, Reaching.entering_none}
use Rattle.dd_values.specs.lemmas.Booleans.{eq_other, lt_yes, lt_no}

-- ---- comparisons that follow from sums
taken_away : (a y b : Exact) → plus a y ≡ low b → plus b (minus a) ≡ low y
taken_away a y b e =
    sym (plus_low_left b (minus a))
    ∙ (ap (λ (t : Exact). plus t (minus a)) (sym e)
    ∙ (plus_comm (plus a y) (minus a) ∙ (ap (λ (t : Exact). plus (minus a) (plus t y)) (sym (minus_minus a)) ∙ plus_undo (minus a) y)))

at_most_from_sum : (a y b : Exact) → plus a y ≡ low b → IsNonneg y → IsAtMost a b
at_most_from_sum a y b e p = at_most_from_gap a b (subst IsNonneg (sym (taken_away a y b e)) (nonneg_lowest y.num y.den p.sign))

at_most_from_less : (x z u : Exact) → plus z x ≡ low u → IsNonneg (minus x) → IsAtMost u z
at_most_from_less x z u e p = at_most_from_sum u (minus x) z (taken_away x z u (plus_comm x z ∙ e)) p

total_minus : (f : ℕ → Exact) (n : ℕ) → fraction_sum (λ v. minus (f v)) n ≡ minus (fraction_sum f n)
total_minus f zero = refl
total_minus f (suc n) = ap (λ (t : Exact). plus t (minus (f n))) (total_minus f n) ∙ sym (minus_plus (fraction_sum f n) (f n))

-- ---- values of the columns and the slacks
abbrev pub joined : LinearProgram → (ℕ → Exact) → (ℕ → Exact) → ℕ → Exact
joined p u s w = cond (nat_lt w p.columns) (u w) (s (w - p.columns))

joined_column : (p : LinearProgram) (u s : ℕ → Exact) (j : ℕ) → j < p.columns → joined p u s j ≡ u j
joined_column p u s j h = ap (λ (b : Bool). cond b (u j) (s (j - p.columns))) (lt_yes j p.columns h)

joined_slack : (p : LinearProgram) (u s : ℕ → Exact) (k : ℕ) → joined p u s (p.columns + k) ≡ s k
joined_slack p u s k = ap (λ (b : Bool). cond b (u (p.columns + k)) (s (p.columns + k - p.columns))) (lt_no (p.columns + k) p.columns (omega arith)) ∙ ap s (take_off p.columns k)
  where
    take_off : (n k : ℕ) → n + k - n ≡ k
    take_off n k = omega arith

module _ (p : LinearProgram) (d : Dictionary) (g : IsProgram p) (r : IsReached p d) where
  -- the price of the slack of row k
  abbrev slack_price : ℕ → Exact
  slack_price k = price d (p.columns + k)

  joined_meets : (σ : Exact) (u s : ℕ → Exact)
      → ((k : ℕ) → k < length p.rows → plus (fraction_sum (λ j. times (coefficient p k j) (u j)) p.columns) (s k) ≡ times σ (bound_at p k))
      → (k : ℕ) → k < length p.rows → plus (fraction_sum (λ j. times (coefficient p k j) (joined p u s j)) p.columns) (joined p u s (p.columns + k)) ≡ times σ (bound_at p k)
  joined_meets σ u s h k q =
      (λ i. plus (total_same (λ j. times (coefficient p k j) (joined p u s j)) (λ j. times (coefficient p k j) (u j)) p.columns (λ j t. ap (times (coefficient p k j)) (joined_column p u s j t)) i) (joined_slack p u s k i))
      ∙ h k q

  nothing : (f : ℕ → Exact) (l : ℕ) → fraction_sum (λ j. times (f j) zero_of) l ≡ zero_of
  nothing f l = total_none (λ j. times (f j) zero_of) l (λ j _. times_zero (f j))

  -- if all columns are 0, the slacks are the bounds
  nothing_meets : (k : ℕ) → k < length p.rows → plus (fraction_sum (λ j. times (coefficient p k j) zero_of) p.columns) (bound_at p k) ≡ times one_of (bound_at p k)
  nothing_meets k q = ap (λ (t : Exact). plus t (bound_at p k)) (nothing (coefficient p k) p.columns) ∙ (zero_plus (bound_at p k) ∙ sym (one_times (bound_at p k)))

  column_alone : (j : ℕ) → j < p.columns → (f : ℕ → Exact) → fraction_sum (λ w. times (f w) (unit w j)) p.columns ≡ low (f j)
  column_alone j q f =
      total_pick (λ w. times (f w) (unit w j)) j p.columns q (λ w _ k. ap (λ (b : Bool). times (f w) (cond b one_of zero_of)) (eq_other w j k) ∙ times_zero (f w))
      ∙ (ap low (ap (λ (b : Bool). times (f j) (cond b one_of zero_of)) (eq_same j) ∙ times_one (f j)) ∙ low_low _ _)

  -- if one column is 1, the others are 0, and the bounds are replaced by 0, the slacks are the opposites of this column's coefficients
  column_meets : (j : ℕ) → j < p.columns → (k : ℕ) → k < length p.rows
      → plus (fraction_sum (λ w. times (coefficient p k w) (unit w j)) p.columns) (minus (coefficient p k j)) ≡ times zero_of (bound_at p k)
  column_meets j q k t =
      ap (λ (y : Exact). plus y (minus (coefficient p k j))) (column_alone j q (coefficient p k))
      ∙ (plus_low_left (coefficient p k j) (minus (coefficient p k j)) ∙ (plus_minus (coefficient p k j) ∙ sym (zero_times (bound_at p k))))

  -- a sum over all variables is the sum over the columns plus the sum over the slacks
  joined_total : (f u s : ℕ → Exact) → fraction_sum (λ w. times (f w) (joined p u s w)) (count p)
      ≡ plus (fraction_sum (λ j. times (f j) (u j)) p.columns) (fraction_sum (λ k. times (f (p.columns + k)) (s k)) (length p.rows))
  joined_total f u s =
      total_split (λ w. times (f w) (joined p u s w)) p.columns (length p.rows)
      ∙ (λ i. plus
      (total_same (λ w. times (f w) (joined p u s w)) (λ j. times (f j) (u j)) p.columns (λ j q. ap (times (f j)) (joined_column p u s j q)) i)
      (total_same (λ k. times (f (p.columns + k)) (joined p u s (p.columns + k))) (λ k. times (f (p.columns + k)) (s k)) (length p.rows) (λ k q. ap (times (f (p.columns + k))) (joined_slack p u s k)) i))

  worth_at : (σ : Exact) (u s : ℕ → Exact)
      → ((k : ℕ) → k < length p.rows → plus (fraction_sum (λ j. times (coefficient p k j) (u j)) p.columns) (s k) ≡ times σ (bound_at p k))
      → plus (times σ d.value) (plus (fraction_sum (λ j. times (price d j) (u j)) p.columns) (fraction_sum (λ k. times (slack_price k) (s k)) (length p.rows))) ≡ low (u 0)
  worth_at σ u s h =
      sym (ap (plus (times σ d.value)) (joined_total (price d) u s))
      ∙ (r.worth σ (joined p u s) (start_holds p σ (joined p u s) (joined_meets σ u s h)) ∙ ap low (joined_column p u s 0 g.wide))

  dual_price : (k : ℕ) → dual_of p d k ≡ minus (price d (p.columns + k))
  dual_price k = by (d.is_basic (p.columns + k))
    where
      by : (b : Bool) → cond b zero_of (minus (d.cost (p.columns + k))) ≡ minus (cond b zero_of (d.cost (p.columns + k)))
      by true = refl
      by false = refl

  -- ---- the duals
  duals_worth : fraction_sum (λ k. times (dual_of p d k) (bound_at p k)) (length p.rows) ≡ low d.value
  duals_worth =
      total_same (λ k. times (dual_of p d k) (bound_at p k)) (λ k. minus (times (slack_price k) (bound_at p k))) (length p.rows)
      (λ k q. ap (λ (t : Exact). times t (bound_at p k)) (dual_price k) ∙ sym (minus_times (slack_price k) (bound_at p k)))
      ∙ (total_minus (λ k. times (slack_price k) (bound_at p k)) (length p.rows)
      ∙ (sym low_q ∙ sym (plus_cancel d.value (minus Q) Q (sum ∙ sym (plus_comm (minus Q) Q ∙ plus_minus Q)))))
    where
      Q : Exact
      Q = fraction_sum (λ k. times (slack_price k) (bound_at p k)) (length p.rows)

      low_q : low (minus Q) ≡ minus Q
      low_q = ap low (sym (total_minus (λ k. times (slack_price k) (bound_at p k)) (length p.rows))) ∙ (total_low (λ k. minus (times (slack_price k) (bound_at p k))) (length p.rows) ∙ total_minus (λ k. times (slack_price k) (bound_at p k)) (length p.rows))

      sum : plus d.value Q ≡ zero_of
      sum =
          sym (plus_low_left d.value Q)
          ∙ (ap (λ (t : Exact). plus t Q) (sym (one_times d.value))
          ∙ (ap (plus (times one_of d.value)) (sym (total_low (λ k. times (slack_price k) (bound_at p k)) (length p.rows)) ∙ (sym (zero_plus Q) ∙ ap (λ (t : Exact). plus t Q) (sym (nothing (price d) p.columns))))
          ∙ (worth_at one_of (λ j. zero_of) (bound_at p) nothing_meets ∙ zero_is)))

  duals_equation : (j : ℕ) → j < p.columns → plus (fraction_sum (λ k. times (dual_of p d k) (coefficient p k j)) (length p.rows)) (price d j) ≡ low (unit 0 j)
  duals_equation j q = sum
    where
      S : Exact
      S = fraction_sum (λ k. times (dual_of p d k) (coefficient p k j)) (length p.rows)

      slacks : fraction_sum (λ k. times (slack_price k) (minus (coefficient p k j))) (length p.rows) ≡ S
      slacks = total_same (λ k. times (slack_price k) (minus (coefficient p k j))) (λ k. times (dual_of p d k) (coefficient p k j)) (length p.rows)
          (λ k t. sym (minus_times_right (slack_price k) (coefficient p k j)) ∙ (minus_times (slack_price k) (coefficient p k j) ∙ ap (λ (y : Exact). times y (coefficient p k j)) (sym (dual_price k))))

      sum : plus S (price d j) ≡ low (unit 0 j)
      sum =
          plus_comm S (price d j)
          ∙ (sym (low_plus (price d j) S)
          ∙ (sym (zero_plus (plus (price d j) S))
          ∙ ((λ i. plus (sym (zero_times d.value) i) ((sym (plus_low_left (price d j) S) ∙ (λ k. plus (sym (column_alone j q (price d)) k) (sym slacks k))) i))
          ∙ worth_at zero_of (λ w. unit w j) (λ k. minus (coefficient p k j)) (column_meets j q))))

  duals_sum : entering (count p) d ≡ None → (j : ℕ) → j < p.columns → IsAtMost (unit 0 j) (fraction_sum (λ k. times (dual_of p d k) (coefficient p k j)) (length p.rows))
  duals_sum h j q = at_most_from_less (price d j) (fraction_sum (λ k. times (dual_of p d k) (coefficient p k j)) (length p.rows)) (unit 0 j) (duals_equation j q) (entering_none (count p) d j h (omega (arith, q)))

  pub reduced_column : (j : ℕ) → j < p.columns → plus (price d j) (fraction_sum (λ k. times (minus (price d (p.columns + k))) (coefficient p k j)) (length p.rows)) ≡ low (unit 0 j)
  reduced_column j q =
      ap (plus (price d j)) (sym (total_same (λ k. times (dual_of p d k) (coefficient p k j)) (λ k. times (minus (price d (p.columns + k))) (coefficient p k j)) (length p.rows) (λ k _. ap (λ (t : Exact). times t (coefficient p k j)) (dual_price k))))
      ∙ (plus_comm (price d j) (fraction_sum (λ k. times (dual_of p d k) (coefficient p k j)) (length p.rows)) ∙ duals_equation j q)

  pub reduced_value : low d.value ≡ fraction_sum (λ k. times (minus (price d (p.columns + k))) (bound_at p k)) (length p.rows)
  reduced_value =
      sym duals_worth
      ∙ total_same (λ k. times (dual_of p d k) (bound_at p k)) (λ k. times (minus (price d (p.columns + k))) (bound_at p k)) (length p.rows) (λ k _. ap (λ (t : Exact). times t (bound_at p k)) (dual_price k))

  -- ---- rows as combinations of the program's rows
  side_at : (σ : Exact) (u s : ℕ → Exact)
      → ((k : ℕ) → k < length p.rows → plus (fraction_sum (λ j. times (coefficient p k j) (u j)) p.columns) (s k) ≡ times σ (bound_at p k))
      → (v : ℕ) → v < count p → d.is_basic v ≡ true
      → plus (fraction_sum (λ j. times (dictionary_coefficient d v j) (u j)) p.columns) (fraction_sum (λ k. times (dictionary_coefficient d v (p.columns + k)) (s k)) (length p.rows)) ≡ times σ (d.bound v)
  side_at σ u s h v q b =
      sym (joined_total (dictionary_coefficient d v) u s)
      ∙ r.forth σ (joined p u s) (start_holds p σ (joined p u s) (joined_meets σ u s h)) v q b

  pub combined_bound : (v : ℕ) → v < count p → d.is_basic v ≡ true → low (d.bound v) ≡ fraction_sum (λ k. times (dictionary_coefficient d v (p.columns + k)) (bound_at p k)) (length p.rows)
  combined_bound v q b =
      sym (one_times (d.bound v))
      ∙ (sym (side_at one_of (λ _. zero_of) (bound_at p) nothing_meets v q b)
      ∙ (ap (λ (t : Exact). plus t B) (nothing (dictionary_coefficient d v) p.columns) ∙ (zero_plus B ∙ total_low (λ k. times (dictionary_coefficient d v (p.columns + k)) (bound_at p k)) (length p.rows))))
    where
      B : Exact
      B = fraction_sum (λ k. times (dictionary_coefficient d v (p.columns + k)) (bound_at p k)) (length p.rows)

  pub combined_column : (v : ℕ) → v < count p → d.is_basic v ≡ true → (j : ℕ) → j < p.columns
      → low (dictionary_coefficient d v j) ≡ fraction_sum (λ k. times (dictionary_coefficient d v (p.columns + k)) (coefficient p k j)) (length p.rows)
  combined_column v q b j t =
      plus_cancel c S (minus S) (both ∙ sym (plus_minus S)) ∙ total_low (λ k. times (dictionary_coefficient d v (p.columns + k)) (coefficient p k j)) (length p.rows)
    where
      c : Exact
      c = dictionary_coefficient d v j

      S : Exact
      S = fraction_sum (λ k. times (dictionary_coefficient d v (p.columns + k)) (coefficient p k j)) (length p.rows)

      slacks : fraction_sum (λ k. times (dictionary_coefficient d v (p.columns + k)) (minus (coefficient p k j))) (length p.rows) ≡ minus S
      slacks =
          total_same (λ k. times (dictionary_coefficient d v (p.columns + k)) (minus (coefficient p k j))) (λ k. minus (times (dictionary_coefficient d v (p.columns + k)) (coefficient p k j))) (length p.rows)
          (λ k _. sym (minus_times_right (dictionary_coefficient d v (p.columns + k)) (coefficient p k j)))
          ∙ total_minus (λ k. times (dictionary_coefficient d v (p.columns + k)) (coefficient p k j)) (length p.rows)

      both : plus c (minus S) ≡ zero_of
      both =
          sym (plus_low_left c (minus S))
          ∙ ((λ i. plus (sym (column_alone j t (dictionary_coefficient d v)) i) (sym slacks i))
          ∙ (side_at zero_of (λ w. unit w j) (λ k. minus (coefficient p k j)) (column_meets j t) v q b ∙ zero_times (d.bound v)))

  -- ---- no feasible values of the columns give column 0 a greater value
  no_more : entering (count p) d ≡ None → (xs : List Exact) → IsFeasible p xs → IsAtMost (fraction_at xs 0) d.value
  no_more h xs f = at_most_from_less X d.value (fraction_at xs 0) sum less
    where
      s : ℕ → Exact
      s k = plus (bound_at p k) (minus (fraction_sum (λ j. times (coefficient p k j) (fraction_at xs j)) p.columns))

      A : Exact
      A = fraction_sum (λ j. times (price d j) (fraction_at xs j)) p.columns

      B : Exact
      B = fraction_sum (λ k. times (slack_price k) (s k)) (length p.rows)

      X : Exact
      X = plus A B

      meets : (k : ℕ) → k < length p.rows → plus (fraction_sum (λ j. times (coefficient p k j) (fraction_at xs j)) p.columns) (s k) ≡ times one_of (bound_at p k)
      meets k q =
          let T = fraction_sum (λ j. times (coefficient p k j) (fraction_at xs j)) p.columns in
          ap (plus T) (plus_comm (bound_at p k) (minus T)) ∙ (plus_undo T (bound_at p k) ∙ sym (one_times (bound_at p k)))

      sum : plus d.value X ≡ low (fraction_at xs 0)
      sum = sym (plus_low_left d.value X) ∙ (ap (λ (t : Exact). plus t X) (sym (one_times d.value)) ∙ worth_at one_of (fraction_at xs) s meets)

      term : (w : ℕ) → w < count p → (y : Exact) → IsNonneg y → IsNonneg (minus (times (price d w) y))
      term w q y t = subst IsNonneg (sym (minus_times (price d w) y)) (nonneg_times (minus (price d w)) y (entering_none (count p) d w h q) t)

      a : IsNonneg (minus A)
      a = subst IsNonneg (total_minus (λ j. times (price d j) (fraction_at xs j)) p.columns)
          (total_nonneg (λ j. minus (times (price d j) (fraction_at xs j))) p.columns (λ j q. term j (omega (arith, q)) (fraction_at xs j) (f.signs j q)))

      b : IsNonneg (minus B)
      b = subst IsNonneg (total_minus (λ k. times (slack_price k) (s k)) (length p.rows))
          (total_nonneg (λ k. minus (times (slack_price k) (s k))) (length p.rows) (λ k q. term (p.columns + k) (omega (arith, q)) (s k) (at_most_gap _ (bound_at p k) (f.rows k q))))

      less : IsNonneg (minus X)
      less = subst IsNonneg (sym (minus_plus A B)) (nonneg_plus (minus A) (minus B) a b)

  -- ---- the columns
  columns_hold : Holds (count p) d one_of (column_of d)
  columns_hold v q b =
      total_pick (λ w. times (dictionary_coefficient d v w) (column_of d w)) v (count p) q other
      ∙ (ap low at ∙ low_times one_of (d.bound v))
    where
      at : times (dictionary_coefficient d v v) (column_of d v) ≡ times one_of (d.bound v)
      at = rw (eq_same v, b) refl

      other : (w : ℕ) → w < count p → w ≢ v → times (dictionary_coefficient d v w) (column_of d w) ≡ zero_of
      other w _ k = by (d.is_basic w) refl
        where
          by : (t : Bool) → d.is_basic w ≡ t → times (dictionary_coefficient d v w) (column_of d w) ≡ zero_of
          by true s = rw (eq_other w v k, s) (zero_times (d.bound w))
          by false s = rw (eq_other w v k, s) (times_zero (d.entry v w))

  column_nonneg : (w : ℕ) → w < count p → IsNonneg (column_of d w)
  column_nonneg w q = by (d.is_basic w) refl
    where
      by : (t : Bool) → d.is_basic w ≡ t → IsNonneg (column_of d w)
      by true s = rw s (r.bounds w q s)
      by false s = rw s zero_nonneg

  columns_meet : (k : ℕ) → k < length p.rows → IsAtMost (fraction_sum (λ j. times (coefficient p k j) (column_of d j)) p.columns) (bound_at p k)
  columns_meet k q =
      at_most_from_sum _ (column_of d (p.columns + k)) (bound_at p k)
      (start_says p one_of (column_of d) (r.back one_of (column_of d) columns_hold) k q ∙ one_times (bound_at p k))
      (column_nonneg (p.columns + k) (omega (arith, q)))

  first_column : low (column_of d 0) ≡ low d.value
  first_column =
      sym (r.worth one_of (column_of d) (r.back one_of (column_of d) columns_hold))
      ∙ ((λ i. plus (one_times d.value i) (total_none (λ w. times (price d w) (column_of d w)) (count p) none i)) ∙ (plus_zero (low d.value) ∙ low_low _ _))
    where
      none : (w : ℕ) → w < count p → times (price d w) (column_of d w) ≡ zero_of
      none w _ = by (d.is_basic w) refl
        where
          by : (t : Bool) → d.is_basic w ≡ t → times (price d w) (column_of d w) ≡ zero_of
          by true s = rw s (zero_times (d.bound w))
          by false s = rw s (times_zero (d.cost w))

  -- ---- the values of the columns are best
  pub is_best : entering (count p) d ≡ None → (columns duals : List Exact) → length columns ≡ p.columns → ((j : ℕ) → j < p.columns → fraction_at columns j ≡ column_of d j)
      → length duals ≡ length p.rows → ((k : ℕ) → k < length p.rows → fraction_at duals k ≡ dual_of p d k)
      → low d.value ≡ d.value → low (column_of d 0) ≡ column_of d 0 → IsBest p d.value columns duals
  is_best h columns duals sc c sd y v f = record {
    feasible = record {
      size = sc;
      signs = λ j q. subst IsNonneg (sym (c j q)) (column_nonneg j (omega (arith, q)));
      rows = λ k q. subst (λ (t : Exact). IsAtMost t (bound_at p k))
          (total_same (λ j. times (coefficient p k j) (column_of d j)) (λ j. times (coefficient p k j) (fraction_at columns j)) p.columns (λ j t. ap (times (coefficient p k j)) (sym (c j t))))
          (columns_meet k q);
    };
    dual = record {
      size = sd;
      signs = λ k q. subst IsNonneg (sym (y k q ∙ dual_price k)) (entering_none (count p) d (p.columns + k) h (omega (arith, q)));
      sums = λ j q. subst (IsAtMost (unit 0 j))
          (total_same (λ k. times (dual_of p d k) (coefficient p k j)) (λ k. times (fraction_at duals k) (coefficient p k j)) (length p.rows) (λ k t. ap (λ (z : Exact). times z (coefficient p k j)) (sym (y k t))))
          (duals_sum h j q);
    };
    column = c 0 g.wide ∙ (sym f ∙ (first_column ∙ v));
    worth = total_same (λ k. times (fraction_at duals k) (bound_at p k)) (λ k. times (dual_of p d k) (bound_at p k)) (length p.rows) (λ k t. ap (λ (z : Exact). times z (bound_at p k)) (y k t)) ∙ (duals_worth ∙ v);
    best = no_more h;
  }
