use Rattle.dd_compile.proofs.PlacingLaws.{Placing}
use Rattle.dd_compile.proofs.templates.place_template.Given as goal

abbrev pub invariant-loop-gate : goal.invariant-loop-gate
invariant-loop-gate l = Placing l.there l.before l.gates l.gate-index l.initial.circuit l.circuit
