use Rattle.std.proofs.{Common.◌≡◌, Common.subst, Common.sym, lemmas.Result.IfOk-weaker}
use Rattle.dd_certificate.specs.Bounds.{IsWritable}
use Rattle.dd_question.specs.Conjugacies.{conjugacy_of}
use Rattle.dd_respond.specs.{Conjugacies.written_broken, Conjugacies.IsRightConjugacy, joining.Findings.AreFound, joining.Findings.IsFailed}
use Rattle.dd_respond.proofs.Joining.{nothing_found, found_right, found_fits, failed_right}
use Rattle.dd_respond.proofs.conjugacies.conjugate.Goals as goal

pub first_failed-requires-clause-found : goal.first_failed-requires-clause-found
first_failed-requires-clause-found g c =
    let none = c.new-findings.ensures in
    nothing_found c.args.limits.now (conjugacy_of c.args.conjugacy.now) c.new-findings.result none.radii none.steps none.open

pub returns-in-Some-clause-right : goal.returns-in-Some-clause-right
returns-in-Some-clause-right g c =
    let l = c.args.limits.now in
    let parts = conjugacy_of c.args.conjugacy.now in
    let f = c.in-Some.failed in
    let failed : IsFailed l parts f = rw c.in-Some.is at c.in_ok-failed.ensures.failed in
    IfOk-weaker c.written_broken.result (λ a. a ≡ written_broken f.number f.periodic) (IsRightConjugacy l parts)
    (λ a is. subst (IsRightConjugacy l parts) (sym is) (failed_right l parts f failed))
    c.written_broken.ensures.same

pub returns-in-None-clause-right : goal.returns-in-None-clause-right
returns-in-None-clause-right g c =
    let l = c.args.limits.now in
    let parts = conjugacy_of c.args.conjugacy.now in
    let found : AreFound l parts 5 c.first_failed.new.findings = rw c.in-None.is at c.in_ok-failed.ensures.failed in
    subst (IsRightConjugacy l parts) (sym c.written_findings.ensures) (found_right l parts c.first_failed.new.findings found)

pub returns-in-None-clause-writable : goal.returns-in-None-clause-writable
returns-in-None-clause-writable g c =
    let l = c.args.limits.now in
    let parts = conjugacy_of c.args.conjugacy.now in
    let found : AreFound l parts 5 c.first_failed.new.findings = rw c.in-None.is at c.in_ok-failed.ensures.failed in
    subst IsWritable (sym c.written_findings.ensures) (found_fits l parts c.first_failed.new.findings found)
