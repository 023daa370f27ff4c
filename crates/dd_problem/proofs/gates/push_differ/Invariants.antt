use Rattle.dd_lattice.specs.Cells.{cell}
use Rattle.dd_cnf.specs.Encoding.{literal_of}
use Rattle.dd_boxes.specs.Boxes.{origin}
use Rattle.dd_problem.specs.Differing.{differ_made}
use Rattle.dd_problem.proofs.NodesLeft.{NodesLeft}
use Rattle.dd_problem.proofs.gates.push_differ.Given as goal

abbrev pub invariant-loop-node : goal.invariant-loop-node
invariant-loop-node l =
    NodesLeft (λ a. differ_made l.premise.symbols l.left l.right l.inputs (cell origin a)) l.premise.nodes literal_of l.node l.initial.encoder l.encoder l.literals.items
