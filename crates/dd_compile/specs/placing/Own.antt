-- The gates of a template: those of a rule at a node of the origin, over new variables for the cells that the rule reads.
use Rattle.std.specs.Prelude.{ℕ, ◌+◌, ◌*◌, ◌<◌, ◌≡◌, pos, List, [], ◌∷◌, length}
use Rattle.dd_lattice.specs.{Place.Place, Place.place, declared.position.Cell.Cell}
use Rattle.dd_formula.specs.LocalRule.{LocalRule, IsRule, cells_at, expansion_at}
use Rattle.dd_circuit.specs.{declared.gates.Signal.Signal, Circuits.Network}
use Rattle.dd_compile.specs.{Wiring.Wiring, Compiling.Made, Compiling.compiled, ValueGates.fresh}

-- for each cell in turn, the signals of the next m variables, from the variable n + 1 on
abbrev pub signals_in_turn : ℕ → ℕ → List Cell → List (List Signal)
signals_in_turn m n [] = []
signals_in_turn m n (c ∷ cs) = fresh n m ∷ signals_in_turn m (n + m) cs

-- the cells, each with a new variable for each of m symbols
abbrev pub own_wiring : ℕ → List Cell → Wiring
own_wiring m cs = record { cells = cs; signals = signals_in_turn m 0 cs }

abbrev pub origin : Place
origin = place (pos 0) (pos 0) (pos 0)

-- the inputs of a template: the cells that a rule reads at a node, each with its new variables
abbrev pub own_inputs : LocalRule → ℕ → Wiring
own_inputs r a = own_wiring r.symbols (cells_at r a)

-- the number of these variables
abbrev pub own_count : LocalRule → ℕ → ℕ
own_count r a = length (cells_at r a) * r.symbols

-- the signal and the gates of the rule over these inputs
abbrev pub own_made : LocalRule → ℕ → Made
own_made r a = compiled (own_inputs r a) origin (expansion_at r a) (own_count r a)

-- r is a well-formed rule that has the node a, the circuit has exactly the inputs and gates of the template of r at a, and s is the signal of these
-- gates
pub record IsTemplate (r : LocalRule) (a : ℕ) (circuit : Network) (s : Signal) : Type 0 where
  pub exists : a < r.nodes
  pub kept : IsRule r
  pub inputs : circuit.inputs ≡ own_count r a
  pub gates : circuit.gates ≡ (own_made r a).gates
  pub signal : s ≡ (own_made r a).signal
