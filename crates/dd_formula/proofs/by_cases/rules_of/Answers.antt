use Rattle.std.proofs.lemmas.Result.{err_from_is_err_and}
use Rattle.dd_formula.proofs.CaseCounts.{case_refused}
use Rattle.dd_formula.proofs.by_cases.rules_of.Goals as goal

pub returns-in_err-rule-clause-fault : goal.returns-in_err-rule-clause-fault
returns-in_err-rule-clause-fault c =
    let p = err_from_is_err_and c.from_residual-in_err-rule.result c.from_residual-in_err-rule.ensures.1 in
    rw (p.1, p.2) (case_refused c.args.topology.now c.args.sets.now c.args.cases.now c.loop-formula.formula-index c.loop-formula-item.result c.loop-formula-test.true c.loop-formula-item.is _ c.requires.few (rw c.in_ok-copy.ensures at c.in_err-rule.ensures.err))
