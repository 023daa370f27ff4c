-- The result of a run, over the least common denominator, is a certified bound: the columns meet the rows, the sum of dual
-- times coefficient is large enough in each column, and the duals are worth exactly column 0. Each of these statements about
-- fractions becomes one about whole numbers.
use Rattle.std.proofs.Common.{◌≡◌, ℕ, zero, suc, ◌+◌, ◌*◌, ◌/◌, ◌%◌, ◌<◌, ◌≤◌, List, [], ◌∷◌, ◌++◌, length, get_or, map, drop, slice_index, max, refl, sym, ap, subst, ◌∙◌, arith}
use Rattle.std.proofs.lemmas.{Int.ints, Nat.Gcd.mod-eq-zero_of_dvd}
use Rattle.std.proofs.{lemmas.List.get_or-map, lemmas.List.length-map, lemmas.List.get_or-append-add, Math.ListN.get_or-append}
use Rattle.std.proofs.{lemmas.Grind.common_steps, Math.Dec.eqb-zero-suc}
use Rattle.std.specs.Int.RustNames.{unsigned_abs}
use Prim.Native.Nat.{◌∣◌}
use lib.IntN.{ℤ, pos, negsuc, ◌+ℤ◌, ◌*ℤ◌}
use lib.Signed.{◌≤ℤ◌}
use Rattle.dd_fraction.specs.{Exact.Exact, Exact.den_of, Exact.whole_of, Exact.times, Exact.IsLowest, Order.IsAtMost, Order.IsNonneg}
use Rattle.dd_simplex.specs.Programs.{LinearProgram, fraction_at, coefficient, bound_at, unit, zero_of, one_of, fraction_sum, dual_objective, IsBest}
use Rattle.dd_rows.specs.declared.rows.Row.{Row}
use Rattle.dd_discharge.specs.declared.bound.Bound.{Bound}
use Rattle.dd_discharge.specs.Amounts.{total_below, row_in, coefficient_in, column_value, MeetRows, column_sum, AreDualsOver, held_over, IsCertifiedBound}
use Rattle.dd_discharge.specs.Denominators.{common_denominator, numerator_over, IsPrintedAs}
use Rattle.dd_discharge.specs.Bounds.{row_of_fractions}
use Rattle.dd_discharge.proofs.Multiples.{each_divides, joined_above}
use Rattle.dd_discharge.proofs.Over.{IsOver, over_times, times_over, over_whole, over_total, over_at_most, over_same, over_numerator}
use Rattle.std.proofs.Math.ListN as numbered
use Rattle.dd_discharge.specs.Amounts as amounts

abbrev in_fractions : List Row → ℕ → LinearProgram
in_fractions rows n = record { columns = n; rows = map row_of_fractions rows }

abbrev no_row : Row
no_row = record { coefficients = []; bound = 0 }

coefficient_is : (rows : List Row) (n k j : ℕ) → coefficient (in_fractions rows n) k j ≡ whole_of (coefficient_in rows k j)
coefficient_is rows n k j =
    ap (λ (r : _). fraction_at r.coefficients j) (numbered.get_or-map row_of_fractions rows k no_row)
    ∙ numbered.get_or-map whole_of (row_in rows k).coefficients j (pos 0)

bound_is : (rows : List Row) (n k : ℕ) → bound_at (in_fractions rows n) k ≡ whole_of (pos (row_in rows k).bound)
bound_is rows n k = ap (λ (r : _). r.bound) (numbered.get_or-map row_of_fractions rows k no_row)

-- if the fraction at j is at least 0, and its denominator divides c, then it is n / c, where n is the number at j in the list of numerators over c
nonneg_at : (c : ℕ) (xs : List Exact) (j : ℕ) → j < length xs → den_of (fraction_at xs j) ∣ c → IsNonneg (fraction_at xs j)
    → IsOver c (pos (slice_index (map (numerator_over c) xs) j)) (fraction_at xs j)
nonneg_at c xs j p d s =
    subst (λ (n : ℕ). IsOver c (pos n) (fraction_at xs j)) (sym (get_or-map (numerator_over c) xs j zero_of 0 p)) (over_numerator c (fraction_at xs j) s d)

-- if z is n and d is q, the fractions z / d and n / q have the same numerator over c
held_at : (z : ℤ) (n c d q : ℕ) → pos n ≡ z → q ≡ d → unsigned_abs z * (c / d) ≡ n * (c / q)
held_at z n c d q e f = let s : unsigned_abs z ≡ n = ap unsigned_abs (sym e) in rw (s, f) refl

record Ready (rows : List Row) (n : ℕ) (value : Exact) (xs ys : List Exact) (b : Bound) : Type 0 where
  lowest : IsLowest value
  wide : 0 < n
  best : IsBest (in_fractions rows n) value xs ys
  printed : IsPrintedAs value xs ys b

above : (rows : List Row) (n : ℕ) (value : Exact) (xs ys : List Exact) (b : Bound) → Ready rows n value xs ys b → 0 < b.common
above rows n value xs ys b r = rw r.printed.common_is (joined_above 1 (xs ++ ys) (omega arith))

column_divides : (rows : List Row) (n : ℕ) (value : Exact) (xs ys : List Exact) (b : Bound) → Ready rows n value xs ys b
    → (j : ℕ) → j < n → den_of (fraction_at xs j) ∣ b.common
column_divides rows n value xs ys b r j p =
    let size = r.best.feasible.size in
    let within : j < length xs = omega (arith, p, size) in
    rw r.printed.common_is
    (subst (λ (a : Exact). den_of a ∣ common_denominator (xs ++ ys)) (get_or-append xs ys zero_of j within)
    (each_divides 1 (xs ++ ys) j zero_of (more xs ys j within)))
  where
    more : (xs ys : List Exact) (j : ℕ) → j < length xs → j < length (xs ++ ys)
    more xs ys j p = grind (arith, common_steps)

dual_divides : (rows : List Row) (n : ℕ) (value : Exact) (xs ys : List Exact) (b : Bound) → Ready rows n value xs ys b
    → (k : ℕ) → k < length ys → den_of (fraction_at ys k) ∣ b.common
dual_divides rows n value xs ys b r k p =
    rw r.printed.common_is
    (subst (λ (a : Exact). den_of a ∣ common_denominator (xs ++ ys)) (get_or-append-add xs ys k zero_of)
    (each_divides 1 (xs ++ ys) (length xs + k) zero_of (more xs ys k p)))
  where
    more : (xs ys : List Exact) (k : ℕ) → k < length ys → length xs + k < length (xs ++ ys)
    more xs ys k p = grind (arith, common_steps)

value_divides : (rows : List Row) (n : ℕ) (value : Exact) (xs ys : List Exact) (b : Bound) → Ready rows n value xs ys b → den_of value ∣ b.common
value_divides rows n value xs ys b r = subst (λ (a : Exact). den_of a ∣ b.common) r.best.column (column_divides rows n value xs ys b r 0 r.wide)

held_is : (rows : List Row) (n : ℕ) (value : Exact) (xs ys : List Exact) (b : Bound) → Ready rows n value xs ys b → IsOver b.common (pos (held_over b)) value
held_is rows n value xs ys b r =
    let sign : IsNonneg value = subst IsNonneg r.best.column (r.best.feasible.signs 0 r.wide) in
    let den : b.denominator ≡ den_of value = r.printed.denominator_is ∙ sym (one_at_least value.den r.lowest.positive) in
    subst (λ (m : ℕ). IsOver b.common (pos m) value) (held_at value.num b.numerator b.common (den_of value) b.denominator r.printed.numerator_is den)
    (over_numerator b.common value sign (value_divides rows n value xs ys b r))
  where
    one_at_least : (d : ℕ) → 0 < d → max 1 d ≡ d
    one_at_least d p = omega arith

amount_at : (c : ℕ) (xs : List Exact) (j : ℕ) → suc j < length xs → slice_index (map (numerator_over c) (drop 1 xs)) j ≡ slice_index (map (numerator_over c) xs) (suc j)
amount_at c [] j p = absurd (omega (arith, p))
amount_at c (x ∷ xs) j p = refl

column_over : (rows : List Row) (n : ℕ) (value : Exact) (xs ys : List Exact) (b : Bound) → Ready rows n value xs ys b
    → (j : ℕ) → j < n → IsOver b.common (column_value (pos (held_over b)) b.amounts j) (fraction_at xs j)
column_over rows n value xs ys b r zero p = subst (IsOver b.common (pos (held_over b))) (sym r.best.column) (held_is rows n value xs ys b r)
column_over rows n value xs ys b r (suc j) p =
    let size = r.best.feasible.size in
    let within : suc j < length xs = omega (arith, p, size) in
    subst (λ (m : ℕ). IsOver b.common (pos m) (fraction_at xs (suc j)))
    (sym (ap (λ (ns : List ℕ). slice_index ns j) r.printed.amounts_are ∙ amount_at b.common xs j within))
    (nonneg_at b.common xs (suc j) within (column_divides rows n value xs ys b r (suc j) p) (r.best.feasible.signs (suc j) p))

dual_over : (rows : List Row) (n : ℕ) (value : Exact) (xs ys : List Exact) (b : Bound) → Ready rows n value xs ys b
    → (k : ℕ) → k < length rows → IsOver b.common (pos (slice_index b.duals k)) (fraction_at ys k)
dual_over rows n value xs ys b r k p =
    let size = r.best.dual.size in
    let height = length-map rows row_of_fractions in
    let within : k < length ys = omega (arith, p, size, height) in
    let inside : k < length (map row_of_fractions rows) = omega (arith, p, height) in
    subst (λ (m : ℕ). IsOver b.common (pos m) (fraction_at ys k)) (sym (ap (λ (ds : List ℕ). slice_index ds k) r.printed.duals_are))
    (nonneg_at b.common ys k within (dual_divides rows n value xs ys b r k within) (r.best.dual.signs k inside))

amounts_size : (n c : ℕ) (xs : List Exact) → 0 < n → length xs ≡ n → 1 + length (map (numerator_over c) (drop 1 xs)) ≡ n
amounts_size n c [] p e = absurd (omega (arith, p, e))
amounts_size n c (x ∷ xs) p e = let size = length-map xs (numerator_over c) in omega (arith, size, e)

-- the left side of row k, as a numerator over the common denominator
row_over : (rows : List Row) (n : ℕ) (value : Exact) (xs ys : List Exact) (b : Bound) → Ready rows n value xs ys b → (k : ℕ)
    → IsOver b.common (total_below (λ j. coefficient_in rows k j *ℤ column_value (pos (held_over b)) b.amounts j) n) (fraction_sum (λ j. times (coefficient (in_fractions rows n) k j) (fraction_at xs j)) n)
row_over rows n value xs ys b r k =
    over_total b.common (λ j. times (coefficient (in_fractions rows n) k j) (fraction_at xs j)) (λ j. coefficient_in rows k j *ℤ column_value (pos (held_over b)) b.amounts j) n
    (λ j q.
    let m = column_value (pos (held_over b)) b.amounts j in
    subst (λ (a : Exact). IsOver b.common (coefficient_in rows k j *ℤ m) (times a (fraction_at xs j))) (sym (coefficient_is rows n k j))
    (times_over b.common m (coefficient_in rows k j) (fraction_at xs j) (column_over rows n value xs ys b r j q)))

bound_over : (rows : List Row) (n c k : ℕ) → IsOver c (pos (c * (row_in rows k).bound)) (bound_at (in_fractions rows n) k)
bound_over rows n c k =
    subst (λ (a : Exact). IsOver c (pos (c * (row_in rows k).bound)) a) (sym (bound_is rows n k))
    (subst (λ (m : ℕ). IsOver c (pos m) (whole_of (pos (row_in rows k).bound))) (two (row_in rows k).bound c) (over_whole c (pos (row_in rows k).bound)))
  where
    two : (a b : ℕ) → a * b ≡ b * a
    two a b = omega arith

meet : (rows : List Row) (n : ℕ) (value : Exact) (xs ys : List Exact) (b : Bound) → Ready rows n value xs ys b → MeetRows rows n b.common (pos (held_over b)) b.amounts
meet rows n value xs ys b r = record {
  size = ap (λ (ns : List ℕ). 1 + length ns) r.printed.amounts_are ∙ amounts_size n b.common xs r.wide r.best.feasible.size;
  each = λ k p.
      let height = length-map rows row_of_fractions in
      let inside : k < length (map row_of_fractions rows) = omega (arith, p, height) in
      over_at_most b.common (total_below (λ j. coefficient_in rows k j *ℤ column_value (pos (held_over b)) b.amounts j) n) (pos (b.common * (row_in rows k).bound))
      (fraction_sum (λ j. times (coefficient (in_fractions rows n) k j) (fraction_at xs j)) n) (bound_at (in_fractions rows n) k)
      (above rows n value xs ys b r) (row_over rows n value xs ys b r k) (bound_over rows n b.common k) (r.best.feasible.rows k inside);
}

-- the sum in column j, as a numerator over the common denominator
sum_over : (rows : List Row) (n : ℕ) (value : Exact) (xs ys : List Exact) (b : Bound) → Ready rows n value xs ys b → (j : ℕ)
    → IsOver b.common (column_sum rows b.duals j) (fraction_sum (λ k. times (fraction_at ys k) (coefficient (in_fractions rows n) k j)) (length (map row_of_fractions rows)))
sum_over rows n value xs ys b r j =
    rw (length-map rows row_of_fractions)
    (over_total b.common (λ k. times (fraction_at ys k) (coefficient (in_fractions rows n) k j)) (λ k. pos (slice_index b.duals k) *ℤ coefficient_in rows k j) (length rows)
    (λ k q.
    let m = pos (slice_index b.duals k) in
    subst (λ (a : Exact). IsOver b.common (m *ℤ coefficient_in rows k j) (times (fraction_at ys k) a)) (sym (coefficient_is rows n k j))
    (over_times b.common m (coefficient_in rows k j) (fraction_at ys k) (dual_over rows n value xs ys b r k q))))

-- what the duals are worth, as a numerator over the common denominator
worth_over : (rows : List Row) (n : ℕ) (value : Exact) (xs ys : List Exact) (b : Bound) → Ready rows n value xs ys b
    → IsOver b.common (amounts.dual_worth rows b.duals) (dual_objective (in_fractions rows n) ys)
worth_over rows n value xs ys b r =
    rw (length-map rows row_of_fractions)
    (over_total b.common (λ k. times (fraction_at ys k) (bound_at (in_fractions rows n) k)) (λ k. pos (slice_index b.duals k * (row_in rows k).bound)) (length rows)
    (λ k q.
    let m = pos (slice_index b.duals k) in
    subst (λ (a : Exact). IsOver b.common (m *ℤ pos (row_in rows k).bound) (times (fraction_at ys k) a)) (sym (bound_is rows n k))
    (over_times b.common m (pos (row_in rows k).bound) (fraction_at ys k) (dual_over rows n value xs ys b r k q))))

one_over : (c : ℕ) → IsOver c (pos c) (unit 0 0)
one_over c = record { cross = omega (arith, ints) }

none_over : (c j : ℕ) → 1 ≤ j → IsOver c (pos 0) (unit 0 j)
none_over c zero p = absurd (omega (arith, p))
none_over c (suc j) p = rw (eqb-zero-suc j) (record { cross = omega (arith, ints) })

duals : (rows : List Row) (n : ℕ) (value : Exact) (xs ys : List Exact) (b : Bound) → Ready rows n value xs ys b → AreDualsOver rows n b.common b.duals
duals rows n value xs ys b r = record {
  size = ap length r.printed.duals_are ∙ (length-map ys (numerator_over b.common) ∙ (r.best.dual.size ∙ length-map rows row_of_fractions));
  first = over_at_most b.common (pos b.common) (column_sum rows b.duals 0) (unit 0 0) _ (above rows n value xs ys b r) (one_over b.common) (sum_over rows n value xs ys b r 0) (r.best.dual.sums 0 r.wide);
  others = λ j q p. over_at_most b.common (pos 0) (column_sum rows b.duals j) (unit 0 j) _ (above rows n value xs ys b r) (none_over b.common j q) (sum_over rows n value xs ys b r j) (r.best.dual.sums j p);
}

pub certified : (rows : List Row) (n : ℕ) (value : Exact) (xs ys : List Exact) (b : Bound) → IsLowest value → 0 < n
    → IsBest (record { columns = n; rows = map row_of_fractions rows }) value xs ys → IsPrintedAs value xs ys b → IsCertifiedBound rows n b
certified rows n value xs ys b l w s p =
    let r : Ready rows n value xs ys b = record { lowest = l; wide = w; best = s; printed = p } in
    record {
      lowest = subst IsLowest (λ i. record { num = sym p.numerator_is i; den = sym p.denominator_is i }) l;
      some = above rows n value xs ys b r;
      divides = rw p.denominator_is (mod-eq-zero_of_dvd value.den (subst (λ (d : ℕ). d ∣ b.common) (one_at_least value.den l.positive) (value_divides rows n value xs ys b r)));
      amounts = meet rows n value xs ys b r;
      duals = duals rows n value xs ys b r;
      equal = over_same b.common (amounts.dual_worth rows b.duals) (pos (held_over b)) value (subst (IsOver b.common (amounts.dual_worth rows b.duals)) s.worth (worth_over rows n value xs ys b r)) (held_is rows n value xs ys b r);
    }
  where
    one_at_least : (d : ℕ) → 0 < d → max 1 d ≡ d
    one_at_least d p = omega arith
