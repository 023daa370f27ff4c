-- Inputs for cells that have numbers.
use Rattle.std.specs.{Prelude.ℕ, Prelude.List, Prelude.map, Prelude.length, List.range_with_len}
use Rattle.dd_lattice.specs.declared.position.Cell.{Cell}
use Rattle.dd_circuit.specs.{declared.gates.Signal.Signal, Circuits.signal_of}
use Rattle.dd_compile.specs.Wiring.{Wiring}
use Rattle.dd_problem.specs.Clauses.{input}

-- the signals of the number k, that is, of the cell with this number: for each of m symbols, one that says that the cell has this symbol
abbrev pub symbol_signals : ℕ → ℕ → List Signal
symbol_signals m k = map (λ s. signal_of (input m k s)) (range_with_len 0 m)

-- each cell with the signals of the number that stands at the same index in the second list
abbrev pub numbered_wiring : ℕ → List Cell → List ℕ → Wiring
numbered_wiring m cells numbers = record { cells = cells; signals = map (symbol_signals m) numbers }

-- the same for cells that are numbered from 0 in their order
abbrev pub in_turn : ℕ → List Cell → Wiring
in_turn m cells = numbered_wiring m cells (range_with_len 0 (length cells))
