-- Wirings: the inputs of gates, as contracts see them. A wiring has cells and, for each of them, the signals that say which symbol it has.
use Rattle.std.specs.Prelude.{◌≡◌, ◌<◌, ℕ, List, [], ◌∷◌, ◌++◌, Option, Some, None, length, slice_get, slice_index_or}
use Rattle.std.specs.{List.Contains, List.position_or_len, List.Sorted.IsStrictlySortedBy, Ordering.is_eq}
use Rattle.dd_lattice.specs.{declared.position.Cell.Cell, Order.cell_cmp}
use Rattle.dd_circuit.specs.declared.gates.Signal.{Signal}

-- cells in cell order, and for each cell the list of its signals, in the order of the symbols
pub record Wiring : Type 0 where
  pub cells : List Cell
  pub signals : List (List Signal)

-- the cells ascend in cell order, and there are as many lists of signals as cells
pub record IsWiring (w : Wiring) : Type 0 where
  pub ascending : IsStrictlySortedBy cell_cmp w.cells
  pub as_many : length w.signals ≡ length w.cells

-- a wiring without cells
abbrev pub unwired : Wiring
unwired = record { cells = []; signals = [] }

-- the wiring with one more cell, and its signals, at the end
abbrev pub with_cell : Wiring → Cell → List Signal → Wiring
with_cell w c ss = record { cells = w.cells ++ c ∷ []; signals = w.signals ++ ss ∷ [] }

abbrev pub signal_for : Option (List Signal) → ℕ → Option Signal
signal_for None s = None
signal_for (Some ss) s = slice_get ss s

-- the signals of a cell: if the cell has the index k in the list of cells, the list of signals with the index k; `None` if the wiring doesn't have
-- the cell
abbrev pub signals_of : Wiring → Cell → Option (List Signal)
signals_of w c = slice_get w.signals (position_or_len (λ d. is_eq (cell_cmp d c)) w.cells)

-- the wire of a cell and the symbol s: signal s of the cell, where its signals are numbered from 0
abbrev pub wire_of : Wiring → Cell → ℕ → Option Signal
wire_of w c s = signal_for (signals_of w c) s

-- the wires of each cell of the wiring are the signals of the list at the cell's index, and no other cell has a wire
pub record IsWiredByPlace (w : Wiring) : Type 0 where
  pub at : (k : ℕ) (d : Cell) (s : ℕ) → k < length w.cells → wire_of w (slice_index_or w.cells k d) s ≡ signal_for (slice_get w.signals k) s
  pub elsewhere : (c : Cell) (s : ℕ) → (Contains w.cells c → ⊥) → wire_of w c s ≡ None
