use Rattle.std.proofs.Common.{◌≡◌, true, take}
use Rattle.dd_circuit.specs.Circuits.{size}
use Rattle.dd_compile.specs.Compiling.{wires_near, all_wired}
use Rattle.dd_compile.proofs.compiling.+wired.Given as goal

abbrev pub invariant-are_wired-loop-part : goal.invariant-are_wired-loop-part
invariant-are_wired-loop-part l = all_wired (size l.circuit) (wires_near l.inputs l.at) (take l.part-index l.parts) ≡ true
