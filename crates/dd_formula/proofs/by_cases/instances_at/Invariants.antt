use Rattle.std.proofs.Common.{◌≡◌, ◌+◌, take}
use Rattle.std.specs.List.{sum_by}
use Rattle.dd_formula.specs.{LocalRule.most_instances, Counts.cut}
use Rattle.dd_formula.proofs.CaseCounts.{size}
use Rattle.dd_formula.proofs.by_cases.instances_at.Given as goal

abbrev pub invariant-loop-formula : goal.invariant-loop-formula
invariant-loop-formula l = l.sum ≡ cut most_instances (sum_by (size l.topology l.sets l.node) (take l.formula-index l.cases) + 1)
