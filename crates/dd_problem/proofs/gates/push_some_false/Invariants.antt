use Rattle.dd_cnf.specs.Encoding.{opposing}
use Rattle.dd_problem.proofs.NodesLeft.{NodesLeft, node_maker}
use Rattle.dd_problem.proofs.gates.push_some_false.Given as goal

abbrev pub invariant-loop-node : goal.invariant-loop-node
invariant-loop-node l = NodesLeft (node_maker l.inputs l.rule l.at) l.rule.nodes opposing l.node l.initial.encoder l.encoder l.literals.items
