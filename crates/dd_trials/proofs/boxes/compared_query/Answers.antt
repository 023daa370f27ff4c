use Rattle.std.proofs.Common.{length, get_or, ap, sym, subst, ◌∙◌, arith}
use Rattle.std.specs.List.{Contains}
use Rattle.std.proofs.lemmas.List.Elements.{Contains-get_or}
use Rattle.dd_trials.proofs.boxes.compared_query.Goals as goal

-- the query is in the script
pub question-question-requires-clause-query : goal.question-question-requires-clause-query
question-question-requires-clause-query c =
    let queries = c.args.script.now.queries in
    let same = c.queries-query-items.ensures.value in
    let i = c.loop-query.query-index in
    let q = c.query-item.result in
    subst (Contains queries) (sym (c.query-item.is ∙ ap (λ qs. get_or qs i q) same))
    (Contains-get_or queries i q (omega (arith, c.loop-query-test.true, ap length same)))

pub compared-requires : goal.compared-requires
compared-requires c = c.in-Box.ensures.sound.1.goal
