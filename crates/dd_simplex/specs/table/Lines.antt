-- A table is a dictionary in the form that the code uses. It lists the nonbasic variables, and a variable's place is its index in this list. This
-- module defines one pivot of a table. A test whose name ends in `fit` says whether the numbers of the step defined just above it fit, unless a
-- comment of its own says what it tests.
use Rattle.std.specs.Prelude.{◌≡◌, true, ℕ, ◌+◌, List, [], ◌∷◌, ◌++◌, map, take, drop, Bool, true, ◌&&◌, slice_index_or, slice_set}
use Rattle.std.specs.List.{list_all, All}
use Rattle.dd_fraction.specs.Exact.{Exact, plus, times, minus, inverse}
use Rattle.dd_fraction.specs.Checked.{IsFraction, does_product_fit, does_sum_fit}
use Rattle.dd_simplex.specs.Programs.{fraction_at, zero_of, one_of}

-- the equation basic = bound - Σ cell · other, where `other` runs through the nonbasic variables
pub record Line : Type 0 where
  pub basic : ℕ
  pub bound : Exact
  pub cells : List Exact

-- the lines of the basic variables, the nonbasic variables, and the objective, which is equal to value + Σ cost · other
pub record Table : Type 0 where
  pub lines : List Line
  pub others : List ℕ
  pub value : Exact
  pub costs : List Exact

abbrev pub line_at : List Line → ℕ → Line
line_at lines i = slice_index_or lines i (record { basic = 0; bound = zero_of; cells = [] })

abbrev pub other_at : List ℕ → ℕ → ℕ
other_at others j = slice_index_or others j 0

-- a - q · b at each place
abbrev pub less : Exact → List Exact → List Exact → List Exact
less q [] bs = []
less q (a ∷ us) [] = []
less q (a ∷ us) (b ∷ bs) = plus a (minus (times q b)) ∷ less q us bs

abbrev pub do_all_less_fit : Exact → List Exact → List Exact → Bool
do_all_less_fit q [] bs = true
do_all_less_fit q (a ∷ us) [] = true
do_all_less_fit q (a ∷ us) (b ∷ bs) = (does_product_fit q b && does_sum_fit a (minus (times q b))) && do_all_less_fit q us bs

-- the line l solved for the variable `entering`, which is at the place e
abbrev pub solved_line : ℕ → ℕ → Line → Line
solved_line entering e l =
    let k = inverse (fraction_at l.cells e) in
    record { basic = entering; bound = times l.bound k; cells = map (λ a. times a k) (slice_set l.cells e one_of) }

abbrev pub does_solved_fit : ℕ → Line → Bool
does_solved_fit e l =
    let k = inverse (fraction_at l.cells e) in
    does_product_fit l.bound k && list_all (λ a. does_product_fit a k) (slice_set l.cells e one_of)

-- the line l after the solved line `pivot` is substituted into it
abbrev pub changed_line : ℕ → Line → Line → Line
changed_line e pivot l =
    let q = fraction_at l.cells e in
    record {
      basic = l.basic;
      bound = plus l.bound (minus (times q pivot.bound));
      cells = less q (slice_set l.cells e zero_of) pivot.cells;
    }

abbrev pub does_changed_fit : ℕ → Line → Line → Bool
does_changed_fit e pivot l =
    let q = fraction_at l.cells e in
    (does_product_fit q pivot.bound && does_sum_fit l.bound (minus (times q pivot.bound)))
    && do_all_less_fit q (slice_set l.cells e zero_of) pivot.cells

-- the lines after a pivot: line r is solved for the variable `entering` at the place e, and substituted into the other lines
abbrev pub changed_lines : ℕ → ℕ → ℕ → List Line → List Line
changed_lines e r entering lines =
    let pivot = solved_line entering e (line_at lines r) in
    map (changed_line e pivot) (take r lines) ++ pivot ∷ map (changed_line e pivot) (drop (r + 1) lines)

abbrev pub do_lines_fit : ℕ → ℕ → ℕ → List Line → Bool
do_lines_fit e r entering lines =
    let pivot = solved_line entering e (line_at lines r) in
    does_solved_fit e (line_at lines r)
    && (list_all (does_changed_fit e pivot) (take r lines) && list_all (does_changed_fit e pivot) (drop (r + 1) lines))

-- whether the numbers of the new objective fit
abbrev pub does_objective_line_fit : ℕ → Line → Exact → List Exact → Bool
does_objective_line_fit e pivot value costs =
    let c = fraction_at costs e in
    (does_product_fit c pivot.bound && does_sum_fit value (times c pivot.bound))
    && do_all_less_fit c (slice_set costs e zero_of) pivot.cells

-- the table after a pivot: line r is solved for the variable at the place e, and substituted into the other lines and the objective
abbrev pub changed_table : ℕ → ℕ → Table → Table
changed_table e r t =
    let leaving = line_at t.lines r in
    let pivot = solved_line (other_at t.others e) e leaving in
    let c = fraction_at t.costs e in
    record {
      lines = changed_lines e r (other_at t.others e) t.lines;
      others = slice_set t.others e leaving.basic;
      value = plus t.value (times c pivot.bound);
      costs = less c (slice_set t.costs e zero_of) pivot.cells;
    }

abbrev pub does_table_fit : ℕ → ℕ → Table → Bool
does_table_fit e r t =
    let pivot = solved_line (other_at t.others e) e (line_at t.lines r) in
    do_lines_fit e r (other_at t.others e) t.lines && does_objective_line_fit e pivot t.value t.costs

-- the numbers of a line are fractions in lowest terms, whose numerators and denominators are at most 2^127 - 1 in absolute value
pub record HasFractions (l : Line) : Type 0 where
  pub bound : IsFraction l.bound
  pub cells : All IsFraction l.cells

-- subtracting q · b from a changes nothing, and each number in this step fits
pub record IsIdle (a q b : Exact) : Type 0 where
  pub fit : (does_product_fit q b && does_sum_fit a (minus (times q b))) ≡ true
  pub value : plus a (minus (times q b)) ≡ a
