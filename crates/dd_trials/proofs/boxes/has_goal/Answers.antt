use Rattle.std.proofs.Common.{subst}
use Rattle.dd_boxes.specs.{Goals.IsGoalFor, Views.goal_of}
use Rattle.dd_trials.proofs.boxes.has_goal.Goals as goal

pub differ-requires-clause-over : goal.differ-requires-clause-over
differ-requires-clause-over c = let x = c.args.premise.now in subst (λ g. IsGoalFor x (goal_of x g)) c.in-Differ.is c.requires.goal
