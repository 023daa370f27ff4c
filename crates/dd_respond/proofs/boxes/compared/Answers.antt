use Rattle.std.proofs.{Common.◌≡◌, lemmas.Result.IfOk-weaker}
use Rattle.dd_respond.specs.Right.{written_equality, IsRightEqual}
use Rattle.dd_respond.proofs.WritableLaws.{equality_fits}
use Rattle.dd_values.specs.lemmas.Results.{any_ok}
use Rattle.dd_respond.proofs.boxes.compared.Goals as goal

pub returns-clause-right : goal.returns-clause-right
returns-clause-right g c =
    let equality = c.in_ok-equality.equality in
    IfOk-weaker c.written_equality.result (λ a. a ≡ written_equality equality) (IsRightEqual c.args.limits.now c.args.left.now c.args.right.now)
    (λ a is. record { decision = equality; decided = c.in_ok-equality.ensures.decided.decided; written = is })
    c.written_equality.ensures.same

pub written_equality-requires : goal.written_equality-requires
written_equality-requires g c =
    let told = c.in_ok-equality.ensures.decided in
    equality_fits c.refutations_fit.ensures c.args.left.now c.args.right.now c.args.limits.now.radius c.args.limits.now.period
    c.in_ok-equality.equality told.decided told.numbered

pub returns-clause-engines : goal.returns-clause-engines
returns-clause-engines g c = record { kept = c.decide_equal.ensures.engines.kept; first = any_ok c.written_equality.result _ c.in_ok-equality.ensures.engines.first }
