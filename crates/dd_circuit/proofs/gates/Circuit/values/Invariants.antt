use Rattle.std.proofs.Common.{◌≡◌, take}
use Rattle.dd_circuit.specs.Valuations.{values_from}
use Rattle.dd_circuit.proofs.gates.Circuit.values.Given as goal

abbrev pub invariant-loop-gate : goal.invariant-loop-gate
invariant-loop-gate l = l.values.items ≡ values_from l.inputs (take l.gate-index l.gate-items)
