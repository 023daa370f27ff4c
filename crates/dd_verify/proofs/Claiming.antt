-- The claims of certificates for membership, box questions and equality are true.
use Rattle.std.proofs.Common.{ℕ, List}
use Rattle.dd_derivation.specs.{declared.step.Step.Step, lemmas.Soundness.refutes_sound}
use Rattle.dd_formula.specs.LocalRule.{LocalRule, IsRule}
use Rattle.dd_values.specs.declared.limits.Limits.{Limits}
use Rattle.dd_boxes.specs.{Goals.GoalOf, Goals.breaks, Goals.IsGoalFor, Boxes.Suffices, Boxes.HoldsNowhere}
use Rattle.dd_boxes.specs.lemmas.FromBox.{from_least, holds_nowhere}
use Rattle.dd_pattern.specs.Tile.{Tile}
use Rattle.dd_problem.specs.{Problems.box_problem, pushing.GoalFacts.HasGoalFacts, lemmas.BoxShows.box_shows, lemmas.BoxShows.shown_decides}
use Rattle.dd_certificate.specs.declared.answer.Answer.{Answer}
use Rattle.dd_evidence.specs.Answers.{IsMemberCertificate, member_inside, member_outside}
use Rattle.dd_verify.specs.Evidence.{IsBoxCertificate, box_yes, box_no, box_unknown, IsEqualCertificate, equal_yes, left_no, right_no, equal_unknown, IsYes}
use Rattle.dd_verify.specs.Holding.{MemberClaim, says_inside, says_outside, BoxClaim, says_nowhere, says_witness, says_nothing, EqualClaim, says_equal, says_left, says_right, says_none}

-- If the steps refute the clauses of a box, no admissible filling of the box has the goal at the origin. So the goal holds
-- nowhere.
pub yes_claims : (l : Limits) (x : LocalRule) (g : GoalOf) (n : ℕ) (steps : List Step) → IsRule x → IsGoalFor x g → HasGoalFacts x g → IsYes l x g n steps →
    HoldsNowhere x g n
yes_claims l x g n steps rule ok gates told =
    let p = box_problem x g n in
    let reach = from_least g told.least n told.is_least told.low in
    let decides = shown_decides p.clauses x g n (box_shows x g n rule gates reach) in
    let suffices : Suffices x g n = decides.suffices (refutes_sound p.variables p.clauses steps told.refuting) in
    holds_nowhere x g n ok reach suffices

pub member_claims : (x : LocalRule) (t : Tile) (a : Answer) → IsMemberCertificate x t a → MemberClaim x t a
member_claims x t a (member_inside h) = says_inside h
member_claims x t a (member_outside h) = says_outside (h.0, h.2, h.1.here)

pub box_claims : (l : Limits) (x : LocalRule) (g : GoalOf) (a : Answer) → IsRule x → IsGoalFor x g → HasGoalFacts x g → IsBoxCertificate l x g a → BoxClaim x g a
box_claims l x g a rule ok gates (box_yes {n = n} {steps = steps} h) = says_nowhere (yes_claims l x g n steps rule ok gates h)
box_claims l x g a rule ok gates (box_no h) = says_witness h.witness
box_claims l x g a rule ok gates box_unknown = says_nothing

module _ (l : Limits) (x y : LocalRule) (left_rule : IsRule x) (right_rule : IsRule y) (left_goal : IsGoalFor x (breaks y)) (right_goal : IsGoalFor y (breaks x)) where
  pub equal_claims : (a : Answer) → IsEqualCertificate l x y a → EqualClaim x y a
  equal_claims a (equal_yes {n = n} {m = m} {steps = steps} {others = others} h k) =
      says_equal (yes_claims l x (breaks y) n steps left_rule left_goal (right_rule, left_goal) h) (yes_claims l y (breaks x) m others right_rule right_goal (left_rule, right_goal) k)
  equal_claims a (left_no h) = says_left h.witness
  equal_claims a (right_no h) = says_right h.witness
  equal_claims a equal_unknown = says_none
