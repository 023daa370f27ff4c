use Rattle.dd_topology.proofs.GrowthLaws.{IsGrown}
use Rattle.dd_topology.proofs.topology.Topology.ball_within.Given as goal

abbrev pub invariant-loop : goal.invariant-loop
invariant-loop l = IsGrown l.self.edges l.centre l.counter l.found.keys l.frontier.items
