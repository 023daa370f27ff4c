use Rattle.dd_boxes.specs.{Views.goal_of, Counts.goal_clauses}
use Rattle.dd_question.proofs.CutLaws.{long_is}
use Rattle.dd_question.proofs.limits.is_long.Goals as goal

pub returns : goal.returns
returns c =
    let premise = c.args.premise.now in
    let g = goal_of premise c.args.goal.now in
    long_is c.args.limits.now premise g c.max-radius.result c.in_ok-measure.measure.radius c.question_clauses-clauses.result
    c.max-radius.ensures c.in_ok-measure.ensures.radius (c.question_clauses-clauses.ensures (goal_clauses g) c.in_ok-measure.ensures.clauses)
