use Rattle.dd_compile.specs.lemmas.CaseRules.{Ruling}
use Rattle.dd_compile.proofs.values.compile_rules.Given as goal

abbrev pub invariant-loop-rule : goal.invariant-loop-rule
invariant-loop-rule l = Ruling l.inputs l.cases l.at l.rule-index l.initial.circuit l.circuit l.signals.items
