use Rattle.std.proofs.lemmas.Result.{IfOk-weaker}
use Rattle.dd_boxes.specs.Views.{goal_of}
use Rattle.dd_contain.specs.Questions.{IsDecision}
use Rattle.dd_question.specs.Conjugacies.{conjugacy_of}
use Rattle.dd_respond.specs.{Conjugacies.ComesTo, Writable.IsWritableDecision}
use Rattle.dd_respond.proofs.{Parts.some_part, WritableLaws.decision_fits}
use Rattle.dd_respond.proofs.conjugacies.part_decided.Goals as goal

pub unreachable-requires : goal.unreachable-requires
unreachable-requires g c =
    let some = some_part (conjugacy_of c.args.conjugacy.now) c.args.number c.requires.number.0 c.requires.number.1 in
    c.part.ensures.none c.in-None.is some.0 some.1 some.2

pub returns-clause-comes : goal.returns-clause-comes
returns-clause-comes g c =
    let x = c.in-Some.premise.now in
    let goal = goal_of x c.in-Some.goal in
    let l = c.args.limits.now in
    IfOk-weaker c.decide.result (IsDecision x goal l.radius l.period) (ComesTo l (conjugacy_of c.args.conjugacy.now) c.args.number)
    (λ d is. record { premise = x; goal = goal; is_part = c.in-Some.ensures.part; decided = is.decided })
    c.decide.ensures.decided

pub returns-clause-writable : goal.returns-clause-writable
returns-clause-writable g c =
    let x = c.in-Some.premise.now in
    let goal = goal_of x c.in-Some.goal in
    let l = c.args.limits.now in
    IfOk-weaker c.decide.result (IsDecision x goal l.radius l.period) IsWritableDecision
    (λ d is. decision_fits c.refutations_fit.ensures x goal l.radius l.period d is.decided is.numbered)
    c.decide.ensures.decided
