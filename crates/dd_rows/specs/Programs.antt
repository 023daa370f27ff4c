-- The program of a rule along some vectors. Along each vector, each position gives an amount that the pattern around it
-- determines. The program's rows are linear inequalities, with a coefficient for each column. Each column stands for a number.
-- Column 0 is a lower bound for what each position holds in the end. After it there is a column for each vector and each
-- pattern: the amount that a position with this pattern gives along this vector.
use Rattle.std.specs.Prelude.{ℕ, ◌+◌, ◌*◌, ◌<◌, ◌≤◌, ◌≡◌, ◌⊎◌, Bool, ◌&&◌, cond, pos, ◌-ℤ◌, ℤ, List, [], ◌∷◌, ◌++◌, map, length, replicate, unwrap_or}
use Rattle.std.specs.{Bool.nat_eq, Ordering.int_eq, List.fold, List.flat_map, List.list_any, List.range_with_len}
use Rattle.std.specs.Cmp.Lexicographic.{pointwise}
use Rattle.dd_lattice.specs.{Place.Place, Cells.cell, declared.position.Cell.Cell}
use Rattle.dd_pattern.specs.{Reading.Look, Weight.total_weight}
use Rattle.dd_expansion.specs.Limits.{greatest}
use Rattle.dd_formula.specs.LocalRule.{LocalRule}
use Rattle.dd_rows.specs.{declared.rows.Row.Row, declared.rows.Rows.Rows, declared.fault.RowsFault.RowsFault, Domains.IsGround}
use Rattle.dd_rows.specs.Fillings.{look_of, fillings, HasManyFillings, HasFewFillings}
use Rattle.dd_rows.specs.{Patterns.pattern_at, Patterns.givers, Patterns.patterns, Patterns.pattern_number, Faults.OnLarge}
use Rattle.dd_boxes.specs.{Cells.box_cells, Boxes.origin}

-- 1 if k is n, else 0
abbrev pub one_at : ℕ → ℕ → ℤ
one_at k n = pos (cond (nat_eq k n) 1 0)

-- The coefficients of a row: 1 for column 0. Then, for each vector and pattern, the sum of two numbers: 1 if this is the
-- pattern around the origin, else 0; and -1 if it is the pattern around the position that gives to the origin along the vector,
-- else 0. `out` is the pattern around the origin. `ins` has, for each vector, the pattern around the position that gives to the
-- origin along it.
abbrev pub coefficients : List (List ℕ) → List ℕ → List (List ℕ) → List ℤ
coefficients ps out ins =
    pos 1 ∷ flat_map (λ q. map (λ k. one_at k (pattern_number ps out) -ℤ one_at k (pattern_number ps q)) (range_with_len 0 (length ps))) ins

-- the weight of the origin, over all its nodes
abbrev pub origin_weight : LocalRule → List ℕ → Look → ℕ
origin_weight x ws look = total_weight ws (map (λ a. unwrap_or (look (cell origin a)) 0) (range_with_len 0 x.nodes))

-- The row that a filling requires. It says that column 0 is at most the origin's weight, less what the origin gives, plus what
-- the origin receives.
abbrev pub row_of : LocalRule → List ℕ → ℕ → List Place → List (List ℕ) → Look → Row
row_of x ws radius vs ps look =
    let box = box_cells x radius in
    record { coefficients = coefficients ps (pattern_at box look origin) (givers box vs look); bound = origin_weight x ws look }

-- The first row. It says that column 0 is at most the number of nodes times the greatest of the weights ws. No position weighs more than that.
abbrev pub greatest_weight_row : LocalRule → List ℕ → List Place → List (List ℕ) → Row
greatest_weight_row x ws vs ps = record { coefficients = pos 1 ∷ replicate (length vs * length ps) (pos 0); bound = x.nodes * greatest ws }

abbrev pub is_same_row : Row → Row → Bool
is_same_row r s = pointwise int_eq r.coefficients s.coefficients && nat_eq r.bound s.bound

-- appends a row, unless it is already there
abbrev pub add_row : List Row → Row → List Row
add_row rows r = cond (list_any (is_same_row r) rows) rows (rows ++ r ∷ [])

-- the rows without repeats, in the order in which they are first seen
abbrev pub first_seen : List Row → List Row
first_seen rows = fold add_row [] rows

-- the first row, and those that the fillings of the cells require, each once
abbrev pub rows : LocalRule → List ℕ → ℕ → List Place → List Cell → List Row
rows x ws radius vs cs =
    let ps = patterns x radius vs cs in
    first_seen (greatest_weight_row x ws vs ps ∷ map (λ ss. row_of x ws radius vs ps (look_of cs ss)) (fillings x cs))

-- column 0, and a column for each vector and pattern
abbrev pub column_count : ℕ → ℕ → ℕ
column_count vectors patterns = 1 + vectors * patterns

abbrev pub most_columns : ℕ
most_columns = 256

abbrev pub most_rows : ℕ
most_rows = 2048

-- p is the program, and it is within the limits
pub record IsProgramOf (x : LocalRule) (ws : List ℕ) (radius margin : ℕ) (vs : List Place) (p : Rows) : Type 0 where
  pub ground : List Cell
  pub is_ground : IsGround x radius margin vs ground
  pub patterns_are : p.patterns ≡ patterns x radius vs ground
  pub rows_are : p.rows ≡ rows x ws radius vs ground
  pub few_fillings : HasFewFillings x ground
  pub few_columns : column_count (length vs) (length p.patterns) ≤ most_columns
  pub few_rows : length p.rows ≤ most_rows

-- the program would exceed some limit
pub record IsLargeProgram (x : LocalRule) (ws : List ℕ) (radius margin : ℕ) (vs : List Place) : Type 0 where
  pub ground : List Cell
  pub is_ground : IsGround x radius margin vs ground
  pub many : HasManyFillings x ground ⊎ ((most_columns < column_count (length vs) (length (patterns x radius vs ground))) ⊎ (most_rows < length (rows x ws radius vs ground)))

-- the fault is right: if it is `Large`, the program would exceed some limit
abbrev pub IsRowsFault : LocalRule → List ℕ → ℕ → ℕ → List Place → RowsFault → Type 0
IsRowsFault x ws radius margin vs fault = OnLarge fault (IsLargeProgram x ws radius margin vs)
