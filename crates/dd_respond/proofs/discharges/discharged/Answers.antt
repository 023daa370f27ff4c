use Rattle.std.proofs.Common.{sym, subst}
use Rattle.dd_respond.specs.Bounds.{IsRightDischarge, right_bound}
use Rattle.dd_respond.proofs.Measuring.{reason_right}
use Rattle.dd_respond.proofs.discharges.discharged.Goals as goal

pub returns-in-Ok-clause-right : goal.returns-in-Ok-clause-right
returns-in-Ok-clause-right c =
    subst (IsRightDischarge c.args.rule.now c.args.radius c.args.margin c.args.vectors.now c.args.weights.now c.args.pivots) (sym c.written_bound.ensures.same)
    (right_bound c.in-Ok.ensures.ok c.in-Ok.ensures.certificate)

pub returns-in_ok-reason-in-Err-clause-right : goal.returns-in_ok-reason-in-Err-clause-right
returns-in_ok-reason-in-Err-clause-right c =
    reason_right c.args.rule.now c.args.radius c.args.margin c.args.vectors.now c.args.weights.now c.args.pivots c.in-Err.fault c.in_ok-reason-in-Err.reason
    c.in-Err.ensures.err c.in_ok-reason-in-Err.ensures.reason

pub discharge-requires-clause-weights : goal.discharge-requires-clause-weights
discharge-requires-clause-weights c = c.requires.weights

pub discharge-requires-clause-radius : goal.discharge-requires-clause-radius
discharge-requires-clause-radius c = c.requires.radius

pub discharge-requires-clause-margin : goal.discharge-requires-clause-margin
discharge-requires-clause-margin c = c.requires.margin

pub discharge-requires-clause-vectors : goal.discharge-requires-clause-vectors
discharge-requires-clause-vectors c = c.requires.vectors

pub written_bound-requires : goal.written_bound-requires
written_bound-requires c = c.in-Ok.ensures.small
