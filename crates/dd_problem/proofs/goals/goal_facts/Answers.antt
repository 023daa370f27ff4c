use Rattle.std.proofs.Common.{sym, subst}
use Rattle.dd_boxes.specs.{Goals.AreAlike, Goals.IsGoalFor, Views.goal_of}
use Rattle.dd_problem.specs.pushing.GoalFacts.{HasGoalFacts}
use Rattle.dd_problem.proofs.goals.goal_facts.Goals as goal

pub returns-in-Breaks : goal.returns-in-Breaks
returns-in-Breaks c =
    let x = c.args.premise.now in
    let alike : AreAlike x c.in-Breaks.rule.now = subst (λ g. IsGoalFor x (goal_of x g)) c.in-Breaks.is c.requires in
    subst (λ g. HasGoalFacts x (goal_of x g)) (sym c.in-Breaks.is) (c.nodes-nodes.ensures.kept, alike)
