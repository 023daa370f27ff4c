use Rattle.std.proofs.{Common.◌≡◌, Common.sym, Common.subst, lemmas.Result.IfOk-weaker}
use Rattle.dd_certificate.specs.Bounds.{IsWritable}
use Rattle.dd_respond.specs.Tori.{written_weight, IsRightLeast}
use Rattle.dd_respond.proofs.Weighing.{least_right, found_fits}
use Rattle.dd_respond.proofs.tori.lightest.Goals as goal

pub returns-clause-right : goal.returns-clause-right
returns-clause-right c =
    let x = c.args.rule.now in
    let along = c.args.periods in
    let ws = c.args.weights.now in
    let found = c.in_ok-found.found in
    IfOk-weaker c.written_weight.result (λ a. a ≡ written_weight found) (IsRightLeast x along ws)
    (λ a is. subst (IsRightLeast x along ws) (sym is) (least_right x along ws found c.in_ok-found.ensures))
    c.written_weight.ensures

pub returns-clause-writable : goal.returns-clause-writable
returns-clause-writable c =
    let x = c.args.rule.now in
    let along = c.args.periods in
    let ws = c.args.weights.now in
    let found = c.in_ok-found.found in
    IfOk-weaker c.written_weight.result (λ a. a ≡ written_weight found) IsWritable
    (λ a is. subst IsWritable (sym is) (found_fits c.refutations_fit.ensures x along ws c.nodes-nodes.ensures.kept c.requires found c.in_ok-found.ensures))
    c.written_weight.ensures
