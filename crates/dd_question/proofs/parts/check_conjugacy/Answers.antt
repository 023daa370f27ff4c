use Rattle.std.proofs.{Common.refl, Common.arith, lemmas.Result.err_from_is_err_and, lemmas.Result.IfErr-weaker}
use Rattle.dd_question.specs.{Conjugacies.conjugacy_of, Questions.conjugacy_fault}
use Rattle.dd_question.proofs.parts.check_conjugacy.Goals as goal

pub returns-in_err-check_box-clause-fault : goal.returns-in_err-check_box-clause-fault
returns-in_err-check_box-clause-fault c =
    let p = err_from_is_err_and c.from_residual.result c.from_residual.ensures.1 in
    rw (p.1, p.2) (conjugacy_fault {c = conjugacy_of c.args.c.now} {k = 1} (omega arith, refl) c.in_err-check_box.ensures.fault)

pub returns-in_err-check_box-2-clause-fault : goal.returns-in_err-check_box-2-clause-fault
returns-in_err-check_box-2-clause-fault c =
    let p = err_from_is_err_and c.from_residual-in_err-check_box-2.result c.from_residual-in_err-check_box-2.ensures.1 in
    rw (p.1, p.2) (conjugacy_fault {c = conjugacy_of c.args.c.now} {k = 2} (omega arith, refl) c.in_err-check_box-2.ensures.fault)

pub returns-in_err-check_box-3-clause-fault : goal.returns-in_err-check_box-3-clause-fault
returns-in_err-check_box-3-clause-fault c =
    let p = err_from_is_err_and c.from_residual-in_err-check_box-3.result c.from_residual-in_err-check_box-3.ensures.1 in
    rw (p.1, p.2) (conjugacy_fault {c = conjugacy_of c.args.c.now} {k = 3} (omega arith, refl) c.in_err-check_box-3.ensures.fault)

pub returns-clause-fault : goal.returns-clause-fault
returns-clause-fault c =
    IfErr-weaker c.check_box-4.result _ _ (λ f h. conjugacy_fault {c = conjugacy_of c.args.c.now} {k = 4} (omega arith, refl) h) c.check_box-4.ensures.fault
