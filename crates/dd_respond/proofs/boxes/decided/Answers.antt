use Rattle.std.proofs.{Common.◌≡◌, lemmas.Result.IfOk-weaker}
use Rattle.dd_boxes.specs.Views.{goal_of}
use Rattle.dd_respond.specs.Right.{written_decision, IsRightBox}
use Rattle.dd_respond.proofs.WritableLaws.{decision_fits}
use Rattle.dd_values.specs.lemmas.Results.{any_ok}
use Rattle.dd_respond.proofs.boxes.decided.Goals as goal

pub returns-clause-right : goal.returns-clause-right
returns-clause-right g c =
    let decision = c.in_ok-decision.decision in
    IfOk-weaker c.written_decision.result (λ a. a ≡ written_decision decision) (IsRightBox c.args.limits.now c.args.premise.now (goal_of c.args.premise.now c.args.goal.now))
    (λ a is. record { decision = decision; decided = c.in_ok-decision.ensures.decided.decided; written = is })
    c.written_decision.ensures.same

pub written_decision-requires : goal.written_decision-requires
written_decision-requires g c =
    let told = c.in_ok-decision.ensures.decided in
    decision_fits c.refutations_fit.ensures c.args.premise.now (goal_of c.args.premise.now c.args.goal.now) c.args.limits.now.radius c.args.limits.now.period
    c.in_ok-decision.decision told.decided told.numbered

pub returns-clause-engines : goal.returns-clause-engines
returns-clause-engines g c = record { kept = c.decide.ensures.engines.kept; first = any_ok c.written_decision.result _ c.in_ok-decision.ensures.engines.first }
