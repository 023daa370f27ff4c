use Rattle.dd_meancycle.proofs.WalkCycles.{Trail}
use Rattle.dd_meancycle.proofs.walk_cycle.cycle_on_walk.Given as goal

abbrev pub invariant-loop-step : goal.invariant-loop-step
invariant-loop-step l = Trail l.edges l.last l.state l.end l.step l.at l.weight l.path.items l.seen.items
