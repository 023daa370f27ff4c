-- For every radius up to the largest that may be tried, a box question has few enough clauses. The radius of a YES is within its bounds.
use Rattle.std.proofs.Common.{ℕ, ◌<◌, ◌≤◌, List, arith}
use Rattle.std.specs.Prelude.{max}
use Rattle.dd_lattice.specs.Boxes.{centred, volume}
use Rattle.dd_formula.specs.LocalRule.{LocalRule, IsRule}
use Rattle.dd_values.specs.declared.limits.Limits.{Limits}
use Rattle.dd_boxes.specs.{Goals.GoalOf, Boxes.IsLeastRadius, Counts.question_clauses, Counts.most_clauses}
use Rattle.dd_boxes.specs.lemmas.{SizeLaws.fewer, SizeLaws.box_up, ReachLaws.one_least}
use Rattle.dd_derivation.specs.declared.step.Step.{Step}
use Rattle.dd_verify.specs.Evidence.{IsYes}
use Rattle.dd_question.specs.Boxes.{IsAskable}

pub box_few : (l : Limits) (x : LocalRule) (g : GoalOf) (least n : ℕ) → IsRule x → IsAskable l x g → IsLeastRadius g least → n ≤ max l.radius least →
    question_clauses x g (volume (centred x.dimension n)) ≤ most_clauses
box_few l x g least n rule askable is le =
    let most = max l.radius least in
    fewer x g most l.period (volume (centred x.dimension n)) (box_up x.dimension n most l.period rule.dimension.0 rule.dimension.1 le) (askable.small least is)

-- ---- the radius of a YES is at least the goal's least radius (there is only one), and at most the greater of the least radius and the limit

pub too_near : (l : Limits) (x : LocalRule) (g : GoalOf) (n : ℕ) (steps : List Step) (least : ℕ) → IsLeastRadius g least → n < least → IsYes l x g n steps → ⊥
too_near l x g n steps least is near told =
    let same = one_least g least told.least is told.is_least in
    let low = told.low in
    omega (arith, same, low, near)

pub too_far : (l : Limits) (x : LocalRule) (g : GoalOf) (n : ℕ) (steps : List Step) (least : ℕ) → IsLeastRadius g least → max l.radius least < n →
    IsYes l x g n steps → ⊥
too_far l x g n steps least is far told =
    let same = one_least g least told.least is told.is_least in
    let high = told.high in
    omega (arith, same, high, far)
