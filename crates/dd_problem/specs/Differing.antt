-- The gates that say whether the values of two automata at a cell are different. A value has one signal for each symbol, which says whether the
-- value is this symbol.
use Rattle.std.specs.Prelude.{ℕ, ◌+◌, List, [], ◌∷◌, ◌++◌, length}
use Rattle.dd_lattice.specs.declared.position.Cell.{Cell}
use Rattle.dd_formula.specs.declared.automaton.Automaton.{Automaton}
use Rattle.dd_circuit.specs.declared.gates.{Signal.Signal, Gate.Gate}
use Rattle.dd_circuit.specs.{declared.gates.Gate.TheVariants.And, declared.gates.Gate.TheVariants.Or, Circuits.opposite}
use Rattle.dd_compile.specs.{Wiring.Wiring, Compiling.Maker, Compiling.then_gate, ValueGates.fresh, ValueGates.value_made}

-- from the signals of two values: for each symbol, a gate that says that this symbol is the first value and not the second
abbrev pub apart : List Signal → List Signal → List Gate
apart [] ys = []
apart (x ∷ xs) [] = []
apart (x ∷ xs) (y ∷ ys) = And (x ∷ opposite y ∷ []) ∷ apart xs ys

-- the gates of the first value, those of the second, the gates of `apart` for the k symbols, and a gate that says that some gate
-- of `apart` is true
abbrev pub differ_made : ℕ → Automaton → Automaton → Wiring → Cell → Maker
differ_made k f g w at n =
    let left = value_made k f w at n in
    let second = n + length left.gates in
    let right = value_made k g w at second in
    let third = second + length right.gates in
    let each = apart left.signals right.signals in
    then_gate n ((left.gates ++ right.gates) ++ each) (Or (fresh third (length each)))
