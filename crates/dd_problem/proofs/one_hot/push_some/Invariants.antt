use Rattle.std.proofs.Common.{◌≡◌, ◌++◌, map, true}
use Rattle.dd_cnf.specs.Encoding.{literal}
use Rattle.dd_problem.specs.lemmas.RangesLeft.{range_to}
use Rattle.dd_problem.proofs.one_hot.push_some.Given as goal

abbrev pub invariant-loop-variable : goal.invariant-loop-variable
invariant-loop-variable l = map (λ v. literal v true) (range_to l.from l.end) ≡ l.literals.items ++ map (λ v. literal v true) (range_to l.variable l.end)
