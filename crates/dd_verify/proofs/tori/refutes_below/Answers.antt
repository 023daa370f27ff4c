use Rattle.std.proofs.Common.{sym, ◌∙◌}
use Rattle.dd_verify.proofs.tori.refutes_below.Goals as goal

pub returns-clause-writable : goal.returns-clause-writable
returns-clause-writable c refuted =
    let cnf = c.in_ok-cnf.cnf in
    c.refutations_fit.ensures cnf.variables cnf.clauses c.args.steps.now (sym c.check_refutation.ensures.exact ∙ refuted)
    c.variables-variable.ensures.at_most c.last_number-number.ensures.few
