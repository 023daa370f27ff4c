-- Weak duality: no amounts meet the rows with more in column 0 than the duals are worth. Take the double sum, over the rows and the columns, of dual
-- times coefficient times column. Taken column by column, it is at least the value of column 0. The reason is that the columns are at least 0, and
-- that the sum, over the rows, of dual times coefficient is at least 1 in column 0 and at least 0 in the other columns. Taken row by row, the double
-- sum is at most what the duals are worth, which is the sum of dual times right side. The reason is that the rows hold and the duals are at least 0.
use Rattle.std.proofs.Common.{◌≡◌, ℕ, zero, suc, ◌+◌, ◌*◌, ◌/◌, ◌%◌, ◌<◌, ◌≤◌, List, [], ◌∷◌, length, refl, sym, ap, subst, ◌∙◌, slice_index, arith}
use Rattle.std.proofs.lemmas.{Nat.div-add-mod', Int.ints}
use lib.IntN.{ℤ, pos, negsuc, ◌+ℤ◌, ◌*ℤ◌, *ℤ_comm}
use lib.Signed.{◌≤ℤ◌}
use Rattle.dd_rows.specs.declared.rows.Row.{Row}
use Rattle.dd_discharge.specs.declared.bound.Bound.{Bound}
use Rattle.dd_discharge.specs.Amounts.{total_below, row_in, coefficient_in, column_value, MeetRows, column_sum, dual_worth, AreDualsOver, held_over, IsCertifiedBound, HoldAtMost}
use Rattle.dd_discharge.specs.lemmas.WholeNumbers.{scaled_le, scaled_right, cancel_le}
use Rattle.dd_discharge.specs.lemmas.Totals.{total_same, total_at_most, total_scaled, total_swap, total_first}
use Rattle.dd_fraction.specs.lemmas.Ring.{times_times}

value_nonneg : (held : ℤ) (amounts : List ℕ) (j : ℕ) → pos 0 ≤ℤ held → pos 0 ≤ℤ column_value held amounts j
value_nonneg held amounts zero h = h
value_nonneg held amounts (suc j) h = omega (arith, ints)

-- taken column by column, the double sum is at least `common` times `held`, if `held` is at least 0
by_columns : (rows : List Row) (columns common : ℕ) (duals : List ℕ) (held : ℤ) (amounts : List ℕ) → 0 < columns → pos 0 ≤ℤ held → AreDualsOver rows columns common duals
    → (pos common *ℤ held) ≤ℤ total_below (λ j. column_sum rows duals j *ℤ column_value held amounts j) columns
by_columns rows columns common duals held amounts z h d =
    total_first (λ j. column_sum rows duals j *ℤ column_value held amounts j) columns (pos common *ℤ held) z
    (scaled_right (pos common) (column_sum rows duals 0) held h d.first)
    (λ j q r.
    let zero : pos 0 ≡ pos 0 *ℤ column_value held amounts j = omega (arith, ints) in
    let grown = scaled_right (pos 0) (column_sum rows duals j) (column_value held amounts j) (value_nonneg held amounts j h) (d.others j q r) in
    omega (arith, ints, grown, zero))

-- the double sum is the same column by column and row by row
regrouped : (y : ℕ → ℤ) (a : ℕ → ℕ → ℤ) (x : ℕ → ℤ) (m n : ℕ)
    → total_below (λ j. total_below (λ k. y k *ℤ a k j) m *ℤ x j) n ≡ total_below (λ k. y k *ℤ total_below (λ j. a k j *ℤ x j) n) m
regrouped y a x m n =
    total_same _ _ n (λ j _. *ℤ_comm (total_below (λ k. y k *ℤ a k j) m) (x j) ∙ (sym (total_scaled (x j) (λ k. y k *ℤ a k j) m) ∙ total_same _ _ m (λ k _. turned (x j) (y k) (a k j))))
    ∙ (sym (total_swap (λ k j. y k *ℤ (a k j *ℤ x j)) m n)
    ∙ total_same _ _ m (λ k _. total_scaled (y k) (λ j. a k j *ℤ x j) n))
  where
    turned : (x y a : ℤ) → x *ℤ (y *ℤ a) ≡ y *ℤ (a *ℤ x)
    turned x y a = *ℤ_comm x (y *ℤ a) ∙ sym (times_times y a x)

-- taken row by row, the double sum is at most `common` times what the duals are worth
by_rows : (rows : List Row) (columns common : ℕ) (duals : List ℕ) (held : ℤ) (amounts : List ℕ) → MeetRows rows columns common held amounts
    → total_below (λ k. pos (slice_index duals k) *ℤ total_below (λ j. coefficient_in rows k j *ℤ column_value held amounts j) columns) (length rows) ≤ℤ (pos common *ℤ dual_worth rows duals)
by_rows rows columns common duals held amounts m =
    let y : ℕ → ℤ = λ k. pos (slice_index duals k) in
    let left : ℕ → ℤ = λ k. total_below (λ j. coefficient_in rows k j *ℤ column_value held amounts j) columns in
    let b : ℕ → ℕ = λ k. (row_in rows k).bound in
    let worth = total_scaled (pos common) (λ k. pos (slice_index duals k * b k)) (length rows) in
    let each : total_below (λ k. y k *ℤ left k) (length rows) ≤ℤ total_below (λ k. pos common *ℤ pos (slice_index duals k * b k)) (length rows) =
    total_at_most (λ k. y k *ℤ left k) (λ k. pos common *ℤ pos (slice_index duals k * b k)) (length rows)
    (λ k p.
    let low = scaled_le (y k) (left k) (pos (common * b k)) (natural (slice_index duals k)) (m.each k p) in
    let same : pos (slice_index duals k) *ℤ pos (common * b k) ≡ pos common *ℤ pos (slice_index duals k * b k) = ap pos (turned (slice_index duals k) common (b k)) in
    omega (arith, ints, low, same)) in
    omega (arith, ints, each, worth)
  where
    natural : (n : ℕ) → pos 0 ≤ℤ pos n
    natural n = omega (arith, ints)

    turned : (y c b : ℕ) → y * (c * b) ≡ c * (y * b)
    turned y c b = omega arith

pub weak_duality : (rows : List Row) (columns common other : ℕ) (duals : List ℕ) (held : ℤ) (amounts : List ℕ) → pos 0 ≤ℤ held
    → AreDualsOver rows columns common duals → MeetRows rows columns other held amounts → (pos common *ℤ held) ≤ℤ (pos other *ℤ dual_worth rows duals)
weak_duality rows columns common other duals held amounts h d m =
    let z = m.size in
    let low = by_columns rows columns common duals held amounts (omega (arith, z)) h d in
    let same = regrouped (λ k. pos (slice_index duals k)) (coefficient_in rows) (column_value held amounts) (length rows) columns in
    let high = by_rows rows columns other duals held amounts m in
    omega (arith, ints, low, same, high)

-- if the denominator q divides the common denominator n, then n is n / q times q
whole_part : (q n : ℕ) → n % q ≡ 0 → n ≡ n / q * q
whole_part q n e = let parts = div-add-mod' n q in omega (arith, parts, e)

-- if n is at least 1, and is t times q, then t is greater than 0
above : (q n t : ℕ) → 1 ≤ n → n ≡ t * q → 0 < t
above q n zero p e = absurd (omega (arith, p, e))
above q n (suc t) p e = omega arith

-- if t is at least 1 and t·q·held is at most other·p·t, then q·held is at most other·p
unscaled : (p q t other : ℕ) (held : ℤ) → 0 < t → (pos (t * q) *ℤ held) ≤ℤ (pos other *ℤ pos (p * t)) → (held *ℤ pos q) ≤ℤ pos (p * other)
unscaled p q t other held z h =
    cancel_le (held *ℤ pos q) (pos (p * other)) t z
    (let left : (held *ℤ pos q) *ℤ pos t ≡ pos (t * q) *ℤ held =
    sym (times_times held (pos q) (pos t)) ∙ (*ℤ_comm held (pos (q * t)) ∙ ap (λ (n : ℕ). pos n *ℤ held) (two q t)) in
    let right : pos other *ℤ pos (p * t) ≡ pos (p * other) *ℤ pos t = ap pos (three other p t) in
    omega (arith, ints, h, left, right))
  where
    two : (a b : ℕ) → a * b ≡ b * a
    two a b = omega arith

    three : (a b c : ℕ) → a * (b * c) ≡ b * a * c
    three a b c = omega arith

below_zero : (n : ℕ) (q r : ℕ) → (negsuc n *ℤ pos q) ≤ℤ pos r
below_zero n q r = omega (arith, ints)

pub holds_at_most : (rows : List Row) (columns : ℕ) (b : Bound) → IsCertifiedBound rows columns b → HoldAtMost rows columns b.numerator b.denominator
holds_at_most rows columns b c common (negsuc n) amounts z m = below_zero n b.denominator (b.numerator * common)
holds_at_most rows columns b c common (pos n) amounts z m =
    let t = b.common / b.denominator in
    let parts : b.common ≡ t * b.denominator = whole_part b.denominator b.common c.divides in
    let weak = weak_duality rows columns b.common common b.duals (pos n) amounts (omega (arith, ints)) c.duals m in
    let equal = c.equal in
    unscaled b.numerator b.denominator t common (pos n) (above b.denominator b.common t c.some parts)
    (subst (λ (d : ℤ). (pos (t * b.denominator) *ℤ pos n) ≤ℤ (pos common *ℤ d)) equal
    (subst (λ (q : ℕ). (pos q *ℤ pos n) ≤ℤ (pos common *ℤ dual_worth rows b.duals)) parts weak))
