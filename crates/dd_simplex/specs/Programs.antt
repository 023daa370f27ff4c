-- Linear programs over exact fractions. A column is a variable of the program. Duals are factors for the rows. They serve to show that values of the
-- columns are best, which means that these values make column 0 as great as possible.
use Rattle.std.specs.Prelude.{◌≡◌, ℕ, zero, suc, ◌<◌, ◌-◌, List, [], ◌∷◌, length, slice_index_or, replicate, cond}
use Rattle.std.specs.Bool.{nat_eq}
use lib.IntN.{ℤ, pos}
use Rattle.dd_fraction.specs.{Exact.Exact, Exact.plus, Exact.times, Exact.whole_of, Order.IsAtMost, Order.IsNonneg}

-- the row "the sum of the columns, each times its coefficient, is at most the bound"
pub record ProgramRow : Type 0 where
  pub coefficients : List Exact
  pub bound : Exact

-- a linear program: maximise column 0, where each column is at least 0 and each row holds
pub record LinearProgram : Type 0 where
  pub columns : ℕ
  pub rows : List ProgramRow

abbrev pub zero_of : Exact
zero_of = whole_of (pos 0)

abbrev pub one_of : Exact
one_of = whole_of (pos 1)

-- the fraction at a place of a list, or 0 past its end
abbrev pub fraction_at : List Exact → ℕ → Exact
fraction_at xs i = slice_index_or xs i zero_of

abbrev pub program_row : List ProgramRow → ℕ → ProgramRow
program_row rows k = slice_index_or rows k (record { coefficients = []; bound = zero_of })

abbrev pub row_at : LinearProgram → ℕ → ProgramRow
row_at p k = program_row p.rows k

abbrev pub coefficient : LinearProgram → ℕ → ℕ → Exact
coefficient p k j = fraction_at (row_at p k).coefficients j

abbrev pub bound_at : LinearProgram → ℕ → Exact
bound_at p k = (row_at p k).bound

-- 1 at the variable v, and 0 elsewhere
abbrev pub unit : ℕ → ℕ → Exact
unit v w = cond (nat_eq v w) one_of zero_of

-- the row "column 0 is at most the cap"
abbrev pub cap_row : ℕ → ℤ → ProgramRow
cap_row columns cap = record { coefficients = one_of ∷ replicate (columns - 1) zero_of; bound = whole_of cap }

-- there is at least one column; each row has a coefficient for each column and a bound of at least 0; the first row is "column 0 is at most a cap"
pub record IsProgram (p : LinearProgram) : Type 0 where
  pub wide : 0 < p.columns
  pub rows : 0 < length p.rows
  pub sizes : (k : ℕ) → k < length p.rows → length (row_at p k).coefficients ≡ p.columns
  pub bounds : (k : ℕ) → k < length p.rows → IsNonneg (bound_at p k)
  pub cap : (j : ℕ) → j < p.columns → coefficient p 0 j ≡ unit 0 j

-- f 0 + .. + f (n - 1)
abbrev pub fraction_sum : (ℕ → Exact) → ℕ → Exact
fraction_sum f zero = zero_of
fraction_sum f (suc n) = plus (fraction_sum f n) (f n)

-- values of the columns are feasible: they are at least 0 and meet each row
pub record IsFeasible (p : LinearProgram) (columns : List Exact) : Type 0 where
  pub size : length columns ≡ p.columns
  pub signs : (j : ℕ) → j < p.columns → IsNonneg (fraction_at columns j)
  pub rows : (k : ℕ) → k < length p.rows
      → IsAtMost (fraction_sum (λ j. times (coefficient p k j) (fraction_at columns j)) p.columns) (bound_at p k)

-- The duals are feasible: there is one for each row, and it is at least 0. If each row is multiplied by its dual, the sum of the rows has a
-- coefficient of at least 1 in column 0, and of at least 0 in every other column.
pub record AreDuals (p : LinearProgram) (duals : List Exact) : Type 0 where
  pub size : length duals ≡ length p.rows
  pub signs : (k : ℕ) → k < length p.rows → IsNonneg (fraction_at duals k)
  pub sums : (j : ℕ) → j < p.columns
      → IsAtMost (unit 0 j) (fraction_sum (λ k. times (fraction_at duals k) (coefficient p k j)) (length p.rows))

-- the sum of the bounds, each times its row's dual
abbrev pub dual_objective : LinearProgram → List Exact → Exact
dual_objective p duals = fraction_sum (λ k. times (fraction_at duals k) (bound_at p k)) (length p.rows)

-- The columns have feasible values, and the duals are feasible. Column 0 and the dual objective are both equal to `value`. So no other feasible
-- values of the columns give column 0 a greater value.
pub record IsBest (p : LinearProgram) (value : Exact) (columns duals : List Exact) : Type 0 where
  pub feasible : IsFeasible p columns
  pub dual : AreDuals p duals
  pub column : fraction_at columns 0 ≡ value
  pub worth : dual_objective p duals ≡ value
  pub best : (others : List Exact) → IsFeasible p others → IsAtMost (fraction_at others 0) value
