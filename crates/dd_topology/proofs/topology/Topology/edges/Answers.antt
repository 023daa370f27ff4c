use Rattle.dd_topology.proofs.{BallLaws.is_adjacent-exact, BallLaws.in_ball, BallLaws.ball_holds, GridLaws.short_edges}
use Rattle.dd_topology.proofs.topology.Topology.edges.Goals as goal

pub returns-clause-adjacent : goal.returns-clause-adjacent
returns-clause-adjacent c = λ a b. is_adjacent-exact _ a b

pub returns-clause-balls : goal.returns-clause-balls
returns-clause-balls c = λ centre r d. (in_ball _ centre r d, ball_holds _ centre r d)

pub returns-clause-short : goal.returns-clause-short
returns-clause-short c = rw c.as_slice.ensures (short_edges _ c.self.invariant.0)
