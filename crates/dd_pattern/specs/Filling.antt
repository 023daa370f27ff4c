-- Fillings: finitely many cells, with a symbol for each.
use Rattle.std.specs.Prelude.{◌≡◌, ◌<◌, ℕ, List, Some, None, length, map, slice_get, slice_index_or}
use Rattle.std.specs.{List.All, List.Contains, List.position_or_len, List.Sorted.IsStrictlySortedBy, Ordering.is_eq}
use Rattle.dd_lattice.specs.{declared.position.Cell.Cell, Order.cell_cmp}
use Rattle.dd_pattern.specs.Reading.{Look, HasSymbolsBelow}

-- a list of cells, called the domain, and the list of their symbols in the same order
pub record Filled : Type 0 where
  pub cells : List Cell
  pub symbols : List ℕ

abbrev pub filled : List Cell → List ℕ → Filled
filled cs ss = record { cells = cs; symbols = ss }

-- the cells are strictly ascending in cell order, and each has one symbol
pub record IsFilling (f : Filled) : Type 0 where
  pub ascending : IsStrictlySortedBy cell_cmp f.cells
  pub as_many : length f.symbols ≡ length f.cells

-- the look-up of a filling: a cell's symbol has the same index in the list of symbols as the cell has in the list of cells
abbrev pub filling_look : Filled → Look
filling_look f c = slice_get f.symbols (position_or_len (λ d. is_eq (cell_cmp d c)) f.cells)

-- the cell with the index k in the domain has the symbol with the index k, and a cell outside the domain has none
pub record IsReadByPlace (f : Filled) : Type 0 where
  pub at : (k : ℕ) (d : Cell) → k < length f.cells → filling_look f (slice_index_or f.cells k d) ≡ slice_get f.symbols k
  pub elsewhere : (c : Cell) → (Contains f.cells c → ⊥) → filling_look f c ≡ None

-- if all symbols of the list are below n, so is each symbol that is read
abbrev pub IsReadBelow : Filled → Type 0
IsReadBelow f = (n : ℕ) → All (λ s. s < n) f.symbols → HasSymbolsBelow n (filling_look f)

-- g has exactly the cells cs, and at each of them the same symbol as f
pub record IsRestriction (f : Filled) (cs : List Cell) (g : Filled) : Type 0 where
  pub cells : g.cells ≡ cs
  pub symbols : map Some g.symbols ≡ map (filling_look f) cs

-- one of the cells cs isn't in the domain of f
pub record IsWanting (f : Filled) (cs : List Cell) : Type 0 where
  pub at : Cell
  pub asked : Contains cs at
  pub missing : Contains f.cells at → ⊥
