-- The facts about the goals of a question. If a goal has a rule, this rule is well formed, and has the premise's dimension, nodes and alphabet. If a
-- goal has two automata, they are well formed over the premise's dimension, nodes and alphabet. They read only cells of the lattice, and the gates
-- made for their values (see dd_compile) compute these values.
use Rattle.dd_boxes.specs.Goals.{GoalOf}
use Rattle.dd_formula.specs.LocalRule.{LocalRule}
use Rattle.dd_problem.specs.pushing.GoalFacts.{HasGoalFacts}
use Rattle.dd_question.specs.{Conjugacies.ConjugacyOf, Conjugacies.EachPart, Questions.Asked}
use Rattle.dd_question.specs.Questions as asked

-- the question is a box question or a conjugacy, and the facts about its goals hold
pub data HaveGoalFacts : Asked → Type 0 where
  box_facts : {x : LocalRule} {g : GoalOf} → HasGoalFacts x g → HaveGoalFacts (asked.box x g)
  conjugacy_facts : {c : ConjugacyOf} → EachPart HasGoalFacts c → HaveGoalFacts (asked.conjugacy c)
