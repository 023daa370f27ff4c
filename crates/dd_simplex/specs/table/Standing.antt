-- When a table is well formed, and when it stands for a dictionary.
use Rattle.std.specs.Prelude.{◌≡◌, ℕ, ◌<◌, length, true, false}
use Rattle.dd_fraction.specs.Checked.{IsFraction}
use Rattle.dd_simplex.specs.{Programs.fraction_at, Dictionaries.Dictionary, table.Lines.Table, table.Lines.line_at, table.Lines.other_at}

-- Each nonbasic variable has one cell in each line, and one cost. All cells, bounds and costs, and the value, are fractions in
-- lowest terms that fit.
pub record IsTable (t : Table) : Type 0 where
  pub costs : length t.costs ≡ length t.others
  pub cells : (i : ℕ) → i < length t.lines → length (line_at t.lines i).cells ≡ length t.others
  pub fractions : (i j : ℕ) → i < length t.lines → j < length t.others → IsFraction (fraction_at (line_at t.lines i).cells j)
  pub bounds : (i : ℕ) → i < length t.lines → IsFraction (line_at t.lines i).bound
  pub prices : (j : ℕ) → j < length t.others → IsFraction (fraction_at t.costs j)
  pub value : IsFraction t.value

-- The table t stands for the dictionary d over the first n variables. Each basic variable has a line, which `line` gives, and each nonbasic
-- variable has a place, which `column` gives. This `column` has nothing to do with the program's columns.
pub record StandsFor (n : ℕ) (t : Table) (d : Dictionary) : Type 0 where
  pub line : ℕ → ℕ
  pub column : ℕ → ℕ
  -- from variables to lines and places
  pub line_in : (v : ℕ) → v < n → d.is_basic v ≡ true → line v < length t.lines
  pub line_is : (v : ℕ) → v < n → d.is_basic v ≡ true → (line_at t.lines (line v)).basic ≡ v
  pub column_in : (w : ℕ) → w < n → d.is_basic w ≡ false → column w < length t.others
  pub column_is : (w : ℕ) → w < n → d.is_basic w ≡ false → other_at t.others (column w) ≡ w
  -- and back
  pub basic_in : (i : ℕ) → i < length t.lines → (line_at t.lines i).basic < n
  pub basic_is : (i : ℕ) → i < length t.lines → d.is_basic (line_at t.lines i).basic ≡ true
  pub basic_line : (i : ℕ) → i < length t.lines → line (line_at t.lines i).basic ≡ i
  pub other_in : (j : ℕ) → j < length t.others → other_at t.others j < n
  pub other_is : (j : ℕ) → j < length t.others → d.is_basic (other_at t.others j) ≡ false
  pub other_column : (j : ℕ) → j < length t.others → column (other_at t.others j) ≡ j
  -- the numbers
  pub bounds : (i : ℕ) → i < length t.lines → d.bound (line_at t.lines i).basic ≡ (line_at t.lines i).bound
  pub entries : (i j : ℕ) → i < length t.lines → j < length t.others
      → d.entry (line_at t.lines i).basic (other_at t.others j) ≡ fraction_at (line_at t.lines i).cells j
  pub costs : (j : ℕ) → j < length t.others → d.cost (other_at t.others j) ≡ fraction_at t.costs j
  pub value : d.value ≡ t.value
