-- Conjugacies: whether two automata are inverse maps between two subshifts, as four box questions.
use Rattle.std.specs.Prelude.{ℕ, ◌≡◌, ◌≤◌, ◌-◌, Some, Bool, List, [], ◌∷◌, slice_get}
use Rattle.std.specs.List.{list_any}
use Rattle.dd_values.specs.declared.limits.Limits.{Limits}
use Rattle.dd_formula.specs.LocalRule.{LocalRule}
use Rattle.dd_boxes.specs.{Goals.GoalOf, Views.goal_of}
use Rattle.dd_question.specs.{Boxes.is_long, declared.conjugacy.Conjugacy.Conjugacy}

-- Two subshifts, and the goals of four box questions about a map from the first to the second and a map back. The maps are inverse to each other
-- exactly when the answer to each question is yes: no configuration that obeys the premise has the goal at any position.
pub record ConjugacyOf : Type 0 where
  pub from : LocalRule
  pub to : LocalRule
  -- the goal of question 1, whose premise is `from`: at the position, the image under the map breaks `to`, or has a symbol that isn't allowed
  pub image : GoalOf
  -- the goal of question 2, whose premise is `to`: at the position, the image under the map back breaks `from`, or has a symbol that isn't allowed
  pub image_back : GoalOf
  -- the goal of question 3, whose premise is `from`: the map, followed by the map back, changes a symbol of the position
  pub round : GoalOf
  -- the goal of question 4, whose premise is `to`: the map back, followed by the map, changes a symbol of the position
  pub round_back : GoalOf

-- the four box questions in order, each as its premise and its goal
abbrev pub parts : ConjugacyOf → List (LocalRule × GoalOf)
parts c = (c.from, c.image) ∷ (c.to, c.image_back) ∷ (c.from, c.round) ∷ (c.to, c.round_back) ∷ []

-- the question with this number has this premise and this goal; the four questions are numbered from 1
abbrev pub IsPart : ConjugacyOf → ℕ → LocalRule → GoalOf → Type 0
IsPart c k x g = (1 ≤ k) × (slice_get (parts c) (k - 1) ≡ Some (x, g))

-- the claim IsSaid about box questions holds for all four
pub record EachPart (IsSaid : LocalRule → GoalOf → Type 0) (c : ConjugacyOf) : Type 0 where
  pub image : IsSaid c.from c.image
  pub image_back : IsSaid c.to c.image_back
  pub round : IsSaid c.from c.round
  pub round_back : IsSaid c.to c.round_back

-- `is_long` holds for one of the four box questions
abbrev pub is_some_long : Limits → ConjugacyOf → Bool
is_some_long l c = list_any (λ (p : LocalRule × GoalOf). is_long l p.0 p.1) (parts c)

-- the conjugacy that a value of the code stands for
abbrev pub conjugacy_of : Conjugacy → ConjugacyOf
conjugacy_of c = record {
  from = c.from.now;
  to = c.to.now;
  image = goal_of c.from.now c.image;
  image_back = goal_of c.to.now c.image_back;
  round = goal_of c.from.now c.round;
  round_back = goal_of c.to.now c.round_back;
}
