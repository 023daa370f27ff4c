use Rattle.dd_problem.proofs.PlacesLeft.{PlacesLeft}
use Rattle.dd_problem.proofs.gates.push_places.Given as goal

abbrev pub invariant-loop-cell : goal.invariant-loop-cell
invariant-loop-cell l = PlacesLeft l.inputs l.rule l.cells l.cell-index l.initial.encoder l.encoder
