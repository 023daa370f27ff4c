use Rattle.std.proofs.lemmas.Result.{IfOk-weaker, on_ok_weaker, err_from_is_err_and}
use Rattle.dd_respond.specs.Right.{IsResponse}
use Rattle.dd_answer.specs.Right.{IsAnswerTo}
use Rattle.dd_answer.proofs.QueryLaws.{right_for, engages_for}
use Rattle.dd_answer.proofs.answering.answer.Goals as goal

pub returns-clause-answer : goal.returns-clause-answer
returns-clause-answer g c =
    let s = c.args.script.now in
    let q = c.args.query.now in
    let k = c.question-question.result in
    IfOk-weaker c.respond.result (IsResponse k.limits k.question) (IsAnswerTo s q)
    (λ a is. record {
      right = right_for s q k.question c.question-question.ensures.asks.is k.limits c.question-question.ensures.limits a is.right;
      writable = is.writable;
    })
    c.respond.ensures.answer

pub returns-clause-engines : goal.returns-clause-engines
returns-clause-engines g c = record {
  kept = c.respond.ensures.engines.kept;
  asked = on_ok_weaker c.respond.result
      (engages_for c.args.script.now c.args.query.now c.question-question.result.question c.question-question.ensures.asks.is _ _)
      c.respond.ensures.engines.asked;
}

-- memory ran out before an engine was asked
pub returns-in_err-pairs-clause-engines : goal.returns-in_err-pairs-clause-engines
returns-in_err-pairs-clause-engines g c =
    let p = err_from_is_err_and c.from_residual.result c.from_residual.ensures.1 in
    record { kept = c.kept_is_reflexive.ensures _; asked = rw p.1 tt }
