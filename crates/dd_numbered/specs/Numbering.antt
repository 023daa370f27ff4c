-- Numberings of cells. The number of a cell is the index of its symbol in a list. If the number is past the end of the list, the cell has no symbol.
use Rattle.std.specs.{Prelude.ℕ, Prelude.Option, Prelude.Some, Prelude.None, Prelude.List, Prelude.slice_get, List.position_or_len}
use Rattle.std.specs.Ordering.{is_eq}
use Rattle.dd_lattice.specs.{Order.cell_cmp, declared.position.Cell.Cell}
use Rattle.dd_pattern.specs.Reading.{Look}

-- for each cell its number, or none
abbrev pub Numbering : Type 0
Numbering = Cell → Option ℕ

-- the symbol of the list at the given number, or none if there is no number or it is past the end of the list
abbrev pub symbol_with : List ℕ → Option ℕ → Option ℕ
symbol_with ss None = None
symbol_with ss (Some k) = slice_get ss k

-- the look-up that gives each cell the symbol of the list at the cell's number, or none if there is no such symbol
abbrev pub read_by : Numbering → List ℕ → Look
read_by number ss c = symbol_with ss (number c)

-- the index of the cell in the list, or the length of the list if the cell isn't in it
abbrev pub rank : List Cell → Cell → ℕ
rank cs c = position_or_len (λ d. is_eq (cell_cmp d c)) cs

-- the numbering that gives each cell its index in the list, or the length of the list if the cell isn't in it
abbrev pub by_rank : List Cell → Numbering
by_rank cs c = Some (rank cs c)
