-- The values of the columns after the first i lines have been read, and the duals after the first i nonbasic variables have been read.
use Rattle.std.specs.Prelude.{◌≡◌, ℕ, ◌+◌, ◌<◌, ◌≤◌, List, length, not, ◌&&◌, cond}
use Rattle.std.specs.Bool.{nat_lt}
use Rattle.dd_fraction.specs.Exact.{Exact, minus}
use Rattle.dd_simplex.specs.{Programs.fraction_at, Programs.zero_of, Dictionaries.Dictionary, table.Lines.Line, table.Lines.Table}
use Rattle.dd_simplex.specs.table.Standing.{StandsFor}

-- the value of column j after the first i lines, where `line` gives the line of each basic variable
abbrev pub column_so_far : (ℕ → ℕ) → Dictionary → ℕ → ℕ → Exact
column_so_far line d i j = cond (d.is_basic j && nat_lt (line j) i) (d.bound j) zero_of

-- the dual of the row with the slack w after the first i nonbasic variables, where `column` gives the place of each nonbasic variable
abbrev pub dual_so_far : (ℕ → ℕ) → Dictionary → ℕ → ℕ → Exact
dual_so_far column d i w = cond (not (d.is_basic w) && nat_lt (column w) i) (minus (d.cost w)) zero_of

-- the values that the first i lines give to the columns, for any dictionary that a table with these lines stands for
pub record GiveColumns (lines : List Line) (columns i : ℕ) (values : List Exact) : Type 0 where
  pub size : length values ≡ columns
  pub each : (n : ℕ) (t : Table) (d : Dictionary) (s : StandsFor n t d) → t.lines ≡ lines → columns ≤ n
      → (j : ℕ) → j < columns → fraction_at values j ≡ column_so_far s.line d i j

-- the duals that the first i nonbasic variables give, for any dictionary that the table stands for
pub record GiveDuals (t : Table) (columns i : ℕ) (duals : List Exact) : Type 0 where
  pub size : length duals ≡ length t.lines
  pub each : (n : ℕ) (d : Dictionary) (s : StandsFor n t d) → columns + length t.lines ≤ n
      → (k : ℕ) → k < length t.lines → fraction_at duals k ≡ dual_so_far s.column d i (columns + k)
