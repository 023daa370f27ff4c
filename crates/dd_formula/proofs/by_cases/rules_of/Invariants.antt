use Rattle.std.proofs.Common.{◌≡◌, take, map}
use Rattle.dd_formula.specs.ByCases.{case_over}
use Rattle.dd_formula.proofs.by_cases.rules_of.Given as goal

abbrev pub invariant-loop-formula : goal.invariant-loop-formula
invariant-loop-formula l = l.rules ≡ map (case_over l.topology l.sets) (take l.formula-index l.cases)
