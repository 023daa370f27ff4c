-- The program of a list of fillings, made from what the views show in them.
use Rattle.std.specs.{Prelude.ℕ, Prelude.◌<◌, Prelude.◌≤◌, Prelude.◌≡◌, Prelude.◌⊎◌, Prelude.List, Prelude.length, List.flat_map}
use Rattle.dd_rows.specs.{declared.rows.Row.Row, declared.rows.Rows.Rows, declared.views.Views.Views, Patterns.in_lexicographic_order}
use Rattle.dd_rows.specs.Programs.{first_seen, column_count, most_columns, most_rows}
use Rattle.dd_rows.specs.listing.{Views.patterns_seen, Sparse.required_rows}

-- the patterns that the fillings show
abbrev pub patterns_shown : Views → List (List ℕ) → List (List ℕ)
patterns_shown v fillings = in_lexicographic_order (flat_map (patterns_seen v) fillings)

-- the first row, and then the rows that the fillings require, each once
abbrev pub rows_shown : Views → List ℕ → ℕ → List (List ℕ) → List Row
rows_shown v ws most fillings = first_seen (required_rows (patterns_shown v fillings) v ws most fillings)

-- p is the program, and it is within the limits
pub record IsProgramShown (v : Views) (ws : List ℕ) (most : ℕ) (fillings : List (List ℕ)) (p : Rows) : Type 0 where
  pub patterns_are : p.patterns ≡ patterns_shown v fillings
  pub rows_are : p.rows ≡ rows_shown v ws most fillings
  pub few_columns : column_count (length v.givers) (length p.patterns) ≤ most_columns
  pub few_rows : length p.rows ≤ most_rows

-- the program exceeds a limit
abbrev pub IsLargeShown : Views → List ℕ → ℕ → List (List ℕ) → Type 0
IsLargeShown v ws most fillings = (most_columns < column_count (length v.givers) (length (patterns_shown v fillings))) ⊎ (most_rows < length (rows_shown v ws most fillings))
