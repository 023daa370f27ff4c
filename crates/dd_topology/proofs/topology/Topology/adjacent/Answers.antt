use Rattle.dd_topology.proofs.BallLaws.{is_adjacent-exact}
use Rattle.dd_topology.proofs.topology.Topology.adjacent.Goals as goal

pub returns-clause-exact : goal.returns-clause-exact
returns-clause-exact c = rw (c.some_edge_joins.ensures, c.edges.ensures.edges) (is_adjacent-exact c.args.self.now.edges c.args.a.now c.args.b.now)
