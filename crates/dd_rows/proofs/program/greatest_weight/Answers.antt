use Rattle.std.proofs.{Common.sym, Common.◌∙◌, Common.ap, Common.get_or, Common.take, Common.max, lemmas.List.take_more}
use Rattle.dd_expansion.specs.Limits.{greatest}
use Rattle.dd_rows.specs.lemmas.Lists.{greatest_push}
use Rattle.dd_formula.specs.lemmas.FarthestLaws.{greater_is}
use Rattle.dd_rows.proofs.program.greatest_weight.Goals as goal

pub loop-weight-preserved : goal.loop-weight-preserved
loop-weight-preserved c =
    let ws = c.args.weights.now in
    let i = c.loop-weight.weight-index in
    c.max-most.ensures
    ∙ (greater_is c.loop-weight.most (get_or ws i 0)
    ∙ (ap (λ m. max m (get_or ws i 0)) c.loop-weight.invariant ∙ (sym (greatest_push (take i ws) (get_or ws i 0)) ∙ ap greatest (sym (take_more ws i 0 c.loop-weight-test.true)))))
