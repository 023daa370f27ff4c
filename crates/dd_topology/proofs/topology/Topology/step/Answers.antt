use Rattle.std.proofs.Common.{sym, Some, None}
use Rattle.dd_topology.proofs.MoveLaws.{move_exact}
use Rattle.dd_topology.proofs.topology.Topology.step.Goals as goal

pub returns-in-Some-clause-exact : goal.returns-in-Some-clause-exact
returns-in-Some-clause-exact c =
    rw c.end_of.ensures (move_exact c.args.self.now.edges c.args.from.now c.args.label c.edge_from.ensures.single (Some c.in-Some.edge.now) (sym c.in-Some.ensures.edge))

pub returns-in-None-clause-exact : goal.returns-in-None-clause-exact
returns-in-None-clause-exact c = move_exact c.args.self.now.edges c.args.from.now c.args.label c.edge_from.ensures.single None (sym c.in-None.ensures.edge)
