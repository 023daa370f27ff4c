use Rattle.std.proofs.Common.{◌≡◌, ◌≤◌}
use Rattle.dd_formula.specs.Reach.{automaton_reach}
use Rattle.dd_formula.proofs.automaton.Automaton.reach_at.Given as goal

abbrev pub invariant-loop-node : goal.invariant-loop-node
invariant-loop-node l = record {
  value : l.radius ≡ automaton_reach l.node l.self;
  near : l.radius ≤ 16;
}
