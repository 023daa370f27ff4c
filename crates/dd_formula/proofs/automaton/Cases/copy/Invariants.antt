use Rattle.std.proofs.Common.{◌≡◌, take}
use Rattle.dd_formula.proofs.automaton.Cases.copy.Given as goal

abbrev pub invariant-loop-rule : goal.invariant-loop-rule
invariant-loop-rule l = l.cases ≡ take l.rule-index l.self.cases
