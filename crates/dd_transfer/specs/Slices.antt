-- The slices of a look. The slice at x consists of the symbols of the cells with this x; the other coordinates are read modulo the strip's periods.
-- Consecutive slices make states and windows.
use Rattle.std.specs.Prelude.{◌≡◌, ℕ, ◌+◌, ◌*◌, ◌/◌, ◌%◌, ◌<◌, true, ℤ, pos, ◌+ℤ◌, ◌≤ℤ◌, ◌<ℤ◌, List, map, unwrap_or, IfSome, IsSomeAnd}
use Rattle.std.specs.List.{fold, range_with_len}
use Rattle.dd_lattice.specs.{Place.Place, Place.place, Cells.cell, declared.position.Cell.Cell}
use Rattle.dd_pattern.specs.{Periods.residue, Reading.Look}
use Rattle.dd_formula.specs.LocalRule.{LocalRule, rule_allows}
use Rattle.dd_counts.specs.Rules.{state_length}
use Rattle.dd_strip.specs.{declared.strip.Strip.Strip, Strips.cells}
use Rattle.dd_transfer.specs.Windows.{cell_at, stand, IsTrueAlong}

-- a position modulo the strip's periods, along y and z
abbrev pub across : Strip → Place → Place
across s v = place v.x (pos (residue v.y s.y)) (pos (residue v.z s.z))

-- the look repeats across the strip: two cells that are the same modulo the strip's periods have the same symbol, or both have none
abbrev pub RepeatsAcross : Strip → Look → Type 0
RepeatsAcross s look = (c : Cell) → look c ≡ look (cell (across s c.position) c.node)

-- the cell lies in the n slices from x on
pub record IsInSlices (x : ℤ) (n : ℕ) (c : Cell) : Type 0 where
  pub from : x ≤ℤ c.position.x
  pub before : c.position.x <ℤ (x +ℤ pos n)

-- each cell of the n slices from x on has a symbol of the alphabet
abbrev pub HasSlices : LocalRule → Look → ℤ → ℕ → Type 0
HasSlices r look x n = (c : Cell) → IsInSlices x n c → c.node < r.nodes → IsSomeAnd (look c) (λ d. d < r.symbols)

-- the cell at the place k of the slices from x on; places are counted slice by slice, and within a slice in cell order
abbrev pub cell_from : Strip → ℤ → ℕ → Cell
cell_from s x k = cell_at s (x +ℤ pos (k / cells s)) (k % cells s)

-- the symbols of the n slices from x on, in the order of these places
abbrev pub symbols_from : Strip → Look → ℤ → ℕ → List ℕ
symbols_from s look x n = map (λ k. unwrap_or (look (cell_from s x k)) 0) (range_with_len 0 (n * cells s))

-- the number with these digits, the most significant first
abbrev pub number_with_digits : ℕ → List ℕ → ℕ
number_with_digits base ds = fold (λ n d. n * base + d) 0 ds

-- the number whose digits are the symbols of the n slices from x on
abbrev pub slices_from : LocalRule → Strip → Look → ℤ → ℕ → ℕ
slices_from r s look x n = number_with_digits r.symbols (symbols_from s look x n)

-- the number of the state that begins at x
abbrev pub state_from : LocalRule → Strip → Look → ℤ → ℕ
state_from r s look x = slices_from r s look x (state_length r)

-- the number of the window that begins at x
abbrev pub window_from : LocalRule → Strip → Look → ℤ → ℕ
window_from r s look x = slices_from r s look x (state_length r + 1)

-- the rule keeps the window that begins at x: each symbol is allowed at its node, and the rule is true at each cell of the
-- tested slice
pub record IsKeptFrom (r : LocalRule) (look : Look) (x : ℤ) : Type 0 where
  pub allowed : (c : Cell) → IsInSlices x (state_length r + 1) c → c.node < r.nodes → IfSome (look c) (λ d. rule_allows r c.node d ≡ true)
  pub true_there : IsTrueAlong r (x +ℤ stand r) look
