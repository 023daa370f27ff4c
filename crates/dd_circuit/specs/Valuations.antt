-- The values of all variables of a circuit.
use Rattle.std.specs.Prelude.{◌≡◌, ℕ, Bool, true, List, [], ◌∷◌, ◌++◌, length, take}
use Rattle.dd_values.specs.Variables.{true_variables}
use Rattle.dd_circuit.specs.{declared.gates.Gate.Gate, Circuits.Network, Circuits.size, Circuits.gate_value, Circuits.agrees}

-- The values of all variables. The values of the first variables are given. Each gate adds its own value, which is computed from the values so far.
abbrev pub values_from : List Bool → List Gate → List Bool
values_from values [] = values
values_from values (g ∷ gs) = values_from (values ++ gate_value (true_variables values) g ∷ []) gs

-- The list `values` holds the value of each variable of the circuit if its inputs have the values `inputs`.
pub record AreValues (circuit : Network) (inputs values : List Bool) : Type 0 where
  pub one_each : length values ≡ size circuit
  pub inputs_first : take circuit.inputs values ≡ inputs
  pub gates_follow : agrees (true_variables values) circuit.inputs circuit.gates ≡ true
