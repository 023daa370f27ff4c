use Rattle.std.proofs.Common.{◌≡◌, max, sym, subst, arith}
use Rattle.dd_boxes.specs.{Boxes.IsLeastRadius, Goals.breaks, Goals.differ, Goals.AreOver, Goals.IsGoalFor, Views.goal_of, Views.numbers_of}
use Rattle.dd_boxes.specs.lemmas.ReachLaws.{reach_is_least, farthest_is_least}
use Rattle.dd_formula.specs.{Reach.automaton_reach, declared.automaton.Automaton.Automaton}
use Rattle.dd_boxes.proofs.goals.least_radius.Goals as goal

pub returns-in-Breaks : goal.returns-in-Breaks
returns-in-Breaks c = λ x known fits.
    let rule = c.in-Breaks.rule.now in
    subst (λ g. IsLeastRadius (goal_of x g) c.reach.result) (sym c.in-Breaks.is)
    (subst (IsLeastRadius (breaks rule)) (sym c.reach.ensures.value) (reach_is_least rule c.reach.ensures.kept))

pub reach-requires-in-Differ : goal.reach-requires-in-Differ
reach-requires-in-Differ c =
    let x = c.requires.0 in
    let over = subst (λ g. IsGoalFor x (goal_of x g)) c.in-Differ.is c.requires.1 in
    (numbers_of x, over.left)

pub reach-requires-in-Differ-2 : goal.reach-requires-in-Differ-2
reach-requires-in-Differ-2 c =
    let x = c.requires.0 in
    let over = subst (λ g. IsGoalFor x (goal_of x g)) c.in-Differ.is c.requires.1 in
    (numbers_of x, over.right)

pub returns-in_ok-right_radius-in-Differ : goal.returns-in_ok-right_radius-in-Differ
returns-in_ok-right_radius-in-Differ c = λ x known fits.
    let f : Automaton = c.in-Differ.left.now in
    let g : Automaton = c.in-Differ.right.now in
    let over : AreOver x (numbers_of x) f g = subst (λ h. IsGoalFor x (goal_of x h)) c.in-Differ.is fits in
    let left = c.in_ok-left_radius-in-Differ.ensures.value (numbers_of x) over.left in
    let right = c.in_ok-right_radius-in-Differ.ensures.value (numbers_of x) over.right in
    let far : c.max.result ≡ max (automaton_reach x.nodes f) (automaton_reach x.nodes g) = omega (arith, c.max.ensures, left, right) in
    subst (λ h. IsLeastRadius (goal_of x h) c.max.result) (sym c.in-Differ.is)
    (subst (IsLeastRadius (differ (numbers_of x) f g)) (sym far)
    (farthest_is_least (numbers_of x) f g known.dimension.0 over.left over.right c.reads_are_placed.ensures c.reads_are_placed-in-Differ.ensures))

pub returns-in-Always : goal.returns-in-Always
returns-in-Always c = λ x known fits. subst (λ g. IsLeastRadius (goal_of x g) 0) (sym c.in-Always.is) (record { reaches = tt; least = λ k _. omega arith })
