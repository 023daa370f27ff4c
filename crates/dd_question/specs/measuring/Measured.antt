-- The measure of a goal: how far it reads, and how many clauses it takes to say that it holds at the origin.
use Rattle.std.specs.Prelude.{◌≡◌, ◌≤◌}
use Rattle.dd_formula.specs.{LocalRule.most_reach, Counts.cut}
use Rattle.dd_boxes.specs.{Goals.GoalOf, Counts.goal_clauses, Counts.most_clauses, Boxes.goal_reach}
use Rattle.dd_question.specs.declared.measures.Measure.{Measure}

-- The measure of the goal is m, and the goal reads no farther than `most_reach`. If it takes more than `most_clauses` clauses to say that the goal
-- holds at the origin, `m.clauses` is `most_clauses + 1`.
pub record IsMeasureOf (m : Measure) (g : GoalOf) : Type 0 where
  pub radius : m.radius ≡ goal_reach g
  pub near : m.radius ≤ most_reach
  pub clauses : m.clauses ≡ cut most_clauses (goal_clauses g)
