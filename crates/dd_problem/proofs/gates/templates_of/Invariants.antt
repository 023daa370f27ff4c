use Rattle.std.proofs.Common.{◌≡◌, ◌++◌, map}
use Rattle.dd_compile.specs.Templates.{rule_at}
use Rattle.dd_problem.specs.lemmas.RangesLeft.{range_to}
use Rattle.dd_problem.proofs.gates.templates_of.Given as goal

abbrev pub invariant-loop-node : goal.invariant-loop-node
invariant-loop-node l = map (rule_at l.rule) (range_to 0 l.nodes) ≡ l.templates.items ++ map (rule_at l.rule) (range_to l.node l.nodes)
