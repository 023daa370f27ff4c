-- The gates of an expansion, as a function of the number of variables before them; the number of these gates; the wires that the expansion's leaves
-- need; and when one circuit extends another.
use Rattle.std.specs.Prelude.{ℕ, ◌+◌, ◌≡◌, ◌&&◌, Bool, false, if◌then◌else◌, nat_le, List, [], ◌∷◌, ◌++◌, map, length, Option, Some, None}
use Rattle.std.specs.List.{list_all}
use Rattle.dd_lattice.specs.{Place.Place, Place.moved, Place.is_in_range, Cells.shifted, declared.position.Cell.Cell}
use Rattle.dd_expansion.specs.declared.expanded.Expanded.{Expanded, TheFolds.fold-Expanded}
use Rattle.dd_expansion.specs.{declared.expanded.Expanded.TheOpen.Expanded-F, Leaves.leaves_pass, Leaves.total}
use Rattle.dd_circuit.specs.declared.gates.{Signal.Signal, Gate.Gate}
use Rattle.dd_circuit.specs.declared.gates.Gate.TheVariants.{And, Or, Iff}
use Rattle.dd_circuit.specs.Circuits.{Network, signal_of, opposite}
use Rattle.dd_compile.specs.Wiring.{Wiring, wire_of}

-- a signal, and the gates that are added for it
pub record Made : Type 0 where
  pub signal : Signal
  pub gates : List Gate

-- signals, and the gates that are added for all of them
pub record AllMade : Type 0 where
  pub signals : List Signal
  pub gates : List Gate

abbrev pub made_of : Signal → List Gate → Made
made_of s gs = record { signal = s; gates = gs }

-- a function that gives a signal and its gates, from the number n of variables before these gates
abbrev pub Maker : Type 0
Maker = ℕ → Made

-- the signals and the gates of all parts, one part after the other
abbrev pub all_made : List Maker → ℕ → AllMade
all_made [] n = record { signals = []; gates = [] }
all_made (m ∷ ms) n =
    let rest = all_made ms (n + length (m n).gates) in
    record { signals = (m n).signal ∷ rest.signals; gates = (m n).gates ++ rest.gates }

-- the gates of the parts of an expansion, and then the expansion's own gate, which has the next variable
abbrev pub then_gate : ℕ → List Gate → Gate → Made
then_gate n gates g = made_of (signal_of (n + length gates + 1)) (gates ++ g ∷ [])

-- the gates of an expansion, from those of its parts
abbrev pub made_step : (Cell → ℕ → Signal) → Expanded-F Maker → Maker
made_step wires (Expanded-F.Constant b) n = then_gate n [] (if b then And [] else Or [])
made_step wires (Expanded-F.Leaf c s) n = made_of (wires c s) []
made_step wires (Expanded-F.Not f) n = made_of (opposite (f n).signal) (f n).gates
made_step wires (Expanded-F.And fs) n = then_gate n (all_made fs n).gates (And (all_made fs n).signals)
made_step wires (Expanded-F.Or fs) n = then_gate n (all_made fs n).gates (Or (all_made fs n).signals)
made_step wires (Expanded-F.Iff f g) n =
    let left = f n in
    let right = g (n + length left.gates) in
    then_gate n (left.gates ++ right.gates) (Iff left.signal right.signal)

-- the gates of an expansion; `wires` gives the signal of each leaf, by its cell and its symbol
abbrev pub made : (Cell → ℕ → Signal) → Expanded → Maker
made wires = fold-Expanded Maker (made_step wires)

abbrev pub gate_count_step : Expanded-F ℕ → ℕ
gate_count_step (Expanded-F.Constant b) = 1
gate_count_step (Expanded-F.Leaf c s) = 0
gate_count_step (Expanded-F.Not f) = f
gate_count_step (Expanded-F.And fs) = total fs + 1
gate_count_step (Expanded-F.Or fs) = total fs + 1
gate_count_step (Expanded-F.Iff f g) = (f + g) + 1

-- the number of gates that are added for an expansion
abbrev pub gate_count : Expanded → ℕ
gate_count = fold-Expanded ℕ gate_count_step

-- the number of gates that are added for several expansions
abbrev pub all_counts : List Expanded → ℕ
all_counts es = total (map gate_count es)

-- for each cell and symbol, their wire (the signal that says that the cell has the symbol), or `None` if there is none
abbrev pub Wires : Type 0
Wires = Cell → ℕ → Option Signal

-- the wires of cells relative to the position v; a cell that is out of range when it is moved by v has none
abbrev pub wires_near : Wiring → Place → Wires
wires_near w v c s = if is_in_range (moved c.position v) then wire_of w (shifted v c) s else None

-- the wire is there, and its variable is one of 1..n
abbrev pub is_wire : ℕ → Option Signal → Bool
is_wire n None = false
is_wire n (Some s) = nat_le 1 s.variable && nat_le s.variable n

-- each leaf has its wire, and this wire's variable is one of 1..n
abbrev pub are_wired : ℕ → Wires → Expanded → Bool
are_wired n wires = leaves_pass (λ c s. is_wire n (wires c s))

-- the same for each of several expansions
abbrev pub all_wired : ℕ → Wires → List Expanded → Bool
all_wired n wires es = list_all (are_wired n wires) es

-- the wire, or, if there is none, a signal of the variable 0, which no circuit has
abbrev pub wire_or_zero : Option Signal → Signal
wire_or_zero None = signal_of 0
wire_or_zero (Some s) = s

-- the wires as signals, for expansions in which each leaf has a wire
abbrev pub certain : Wires → Cell → ℕ → Signal
certain wires c s = wire_or_zero (wires c s)

-- the signal and the gates of an expansion over the wiring w, where the cells of the leaves are relative to the position v
abbrev pub compiled : Wiring → Place → Expanded → Maker
compiled w v = made (certain (wires_near w v))

-- the same for several expansions: their signals and their gates, one expansion after the other
abbrev pub all_compiled : Wiring → Place → List Expanded → ℕ → AllMade
all_compiled w v es = all_made (map (compiled w v) es)

-- the new circuit is the old one with gates, possibly none, added at the end
pub record Extends (old new : Network) : Type 0 where
  pub inputs : new.inputs ≡ old.inputs
  pub added : List Gate
  pub gates : new.gates ≡ old.gates ++ added
