-- The facts about a goal that proofs need.
use Rattle.dd_formula.specs.{LocalRule.LocalRule, LocalRule.IsRule, Automata.CommonNumbers, Values.IsPlaced}
use Rattle.dd_formula.specs.declared.automaton.Automaton.{Automaton}
use Rattle.dd_compile.specs.Valued.{SaysItsValue}
use Rattle.dd_boxes.specs.Goals.{GoalOf, breaks, differ, always, AreAlike, AreOver}

-- The two automata are well formed over the rule's dimension, nodes and symbols. They read only cells with a position in Z^d and one of the rule's
-- nodes, and the gates made for their values compute these values.
pub record HasValueFacts (x : LocalRule) (s : CommonNumbers) (f g : Automaton) : Type 0 where
  pub over : AreOver x s f g
  pub left_placed : IsPlaced f
  pub right_placed : IsPlaced g
  pub left_says : SaysItsValue f
  pub right_says : SaysItsValue g

-- the goal's rule satisfies the invariant of rules, and has the premise's dimension, nodes and symbols; for two automata, the facts above hold
abbrev pub HasGoalFacts : LocalRule → GoalOf → Type 0
HasGoalFacts x (breaks y) = IsRule y × AreAlike x y
HasGoalFacts x (differ s f g) = HasValueFacts x s f g
HasGoalFacts x always = Unit {0}
