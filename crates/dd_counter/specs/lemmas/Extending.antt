-- Assignments that are extended by the values of gates.
use Rattle.std.proofs.Common.{◌≡◌, ℕ, Bool, true, false, List, map, ◌∙◌, arith}
use Rattle.std.proofs.lemmas.List.FromFn.{get_or-map-range_with_len, length-map-range_with_len}
use Rattle.std.specs.{Prelude.◌-◌, List.range_with_len}
use Rattle.dd_values.specs.Variables.{true_variables}
use Rattle.dd_circuit.specs.{declared.gates.Gate.Gate, Circuits.AreGates, Circuits.agrees, Valuations.values_from}
use Rattle.dd_circuit.specs.lemmas.ValueLaws.{Alike, values_from-alike, agrees-values_from}

-- the values of the first n variables, and then those of the gates
abbrev pub extension : (ℕ → Bool) → ℕ → List Gate → ℕ → Bool
extension set n gates = true_variables (values_from (map set (range_with_len 1 n)) gates)

pub extension_alike : (set : ℕ → Bool) (n : ℕ) (gates : List Gate) → Alike n (extension set n gates) set
extension_alike set n gates k low high =
    values_from-alike gates (map set (range_with_len 1 n)) n (length-map-range_with_len set 1 n) k low high
    ∙ get_or-map-range_with_len set 1 n (k - 1) k false (omega arith) (omega arith)

pub extension_agrees : (set : ℕ → Bool) (n : ℕ) (gates : List Gate) → AreGates n gates → agrees (extension set n gates) n gates ≡ true
extension_agrees set n gates ok = agrees-values_from gates (map set (range_with_len 1 n)) n (length-map-range_with_len set 1 n) ok
