-- The gates of a template, placed over the signals of a circuit.
use Rattle.std.specs.Prelude.{ℕ, ◌+◌, ◌-◌, ◌&&◌, is_some, if◌then◌else◌, Bool, List, [], map, length, Option, Some, None, slice_get}
use Rattle.std.specs.List.{flat_map}
use Rattle.dd_lattice.specs.{Place.Place, Place.moved, Place.is_in_range, Cells.shifted, declared.position.Cell.Cell}
use Rattle.dd_circuit.specs.declared.gates.{Signal.Signal, Gate.Gate}
use Rattle.dd_circuit.specs.declared.gates.Gate.TheVariants.{And, Or, Iff}
use Rattle.dd_circuit.specs.Circuits.{opposite}
use Rattle.dd_compile.specs.Wiring.{Wiring, signals_of}

-- the list of a cell's signals, which is empty if the cell has none
abbrev pub all_of : Option (List Signal) → List Signal
all_of None = []
all_of (Some ss) = ss

-- the cell, moved by v, is in range, and has signals
abbrev pub is_there : Wiring → Place → Cell → Bool
is_there w v d = is_in_range (moved d.position v) && is_some (signals_of w (shifted v d))

-- the signals of the cells, which are relative to v, one cell after the other
abbrev pub signals_there : Wiring → Place → List Cell → List Signal
signals_there w v cs = flat_map (λ d. all_of (signals_of w (shifted v d))) cs

-- the signal, or the signal's opposite if the truth value is false
abbrev pub signed : Bool → Signal → Signal
signed positive s = if positive then s else opposite s

-- the input, or the signal of the variable if there is no input; in both cases, its opposite if the truth value `positive` is false
abbrev pub placed_by : Option Signal → ℕ → Bool → Signal
placed_by None variable positive = record { variable = variable; positive = positive }
placed_by (Some input) variable positive = signed positive input

-- The signal that replaces a signal of a template. The template's first variables, which are its inputs, are replaced, in order, by the signals
-- `inputs`. The later variables are replaced, in order, by the variables n + 1, n + 2 and so on. The opposite of a variable is replaced by the
-- opposite of the signal that replaces the variable.
abbrev pub placed : List Signal → ℕ → Signal → Signal
placed inputs n s = placed_by (slice_get inputs (s.variable - 1)) (n + (s.variable - length inputs)) s.positive

-- the gate that replaces a gate of a template
abbrev pub placed_gate : List Signal → ℕ → Gate → Gate
placed_gate inputs n (And members) = And (map (placed inputs n) members)
placed_gate inputs n (Or members) = Or (map (placed inputs n) members)
placed_gate inputs n (Iff a b) = Iff (placed inputs n a) (placed inputs n b)
