-- Which answers to questions are right. A box question has a rule (its premise) and a goal: a property of a position, such as
-- that another rule is broken there. It asks whether no configuration that obeys the premise has the goal at any position.
use Rattle.std.specs.{Prelude.◌≡◌, Prelude.Bool, Prelude.nat_eq, Prelude.codes, List.starts_with}
use Rattle.dd_pattern.specs.Tile.{Tile}
use Rattle.dd_formula.specs.LocalRule.{LocalRule}
use Rattle.dd_values.specs.declared.limits.Limits.{Limits}
use Rattle.dd_boxes.specs.Goals.{GoalOf}
use Rattle.dd_certificate.specs.{declared.answer.Answer.Answer, declared.answer.Side.Side, Text.verdict_text, Bounds.IsWritable}
use Rattle.dd_contain.specs.declared.{decision.Decision.Decision, equal.Equality.Equality, equal.Half.Half}
use Rattle.dd_contain.specs.{Questions.IsDecided, Equal.IsEqualDecided}
use Rattle.dd_question.specs.Questions.{Asked}
use Rattle.dd_evidence.specs.{Tiles.written_periods, Answers.IsMemberCertificate, Answers.IsListCertificate, Answers.IsMinimalCertificate}
use Rattle.dd_respond.specs.{Bounds.IsRightDensity, Bounds.IsRightDischarge, Conjugacies.IsRightConjugacy, Tori.IsRightLeast}
use Rattle.dd_certificate.specs.declared.answer.Answer.TheVariants as answer
use Rattle.dd_certificate.specs.declared.answer.Side.TheVariants as side
use Rattle.dd_certificate.specs.declared.answer.Reason.TheVariants as reason
use Rattle.dd_contain.specs.declared.decision.Decision.TheVariants as decision
use Rattle.dd_contain.specs.declared.equal.Equality.TheVariants as equal
use Rattle.dd_contain.specs.declared.equal.Half.TheVariants as half
use Rattle.dd_question.specs.Questions as asked

-- ---- box questions

-- The answer NO with a configuration: its periods along the axes of Z^d, its shear and its symbols. The shear is how far the second period vector
-- goes along the first axis. The symbols are those of the fundamental box, the box that repeats.
abbrev pub written_no : Side → Tile → Answer
written_no s t = answer.No s (written_periods t) t.periods.shear t.symbols

-- the answer that a decision gives
abbrev pub written_decision : Decision → Answer
written_decision (decision.Yes n steps) = answer.Yes n steps
written_decision (decision.No t) = written_no side.Whole t
written_decision decision.Unknown = answer.Unknown reason.Limits

-- the side named in a NO to a question about equality: the side of the rule that the configuration of the NO obeys
abbrev pub side_of : Half → Side
side_of half.Left = side.Left
side_of half.Right = side.Right

-- the answer that a decision about equality gives
abbrev pub written_equality : Equality → Answer
written_equality (equal.Yes left right) = answer.YesBoth left.radius right.radius left.steps right.steps
written_equality (equal.No h t) = written_no (side_of h) t
written_equality equal.Unknown = answer.Unknown reason.Limits

-- this is a right answer to the box question with the premise x and the goal g, within the limits
pub record IsRightBox (l : Limits) (x : LocalRule) (g : GoalOf) (a : Answer) : Type 0 where
  pub decision : Decision
  pub decided : IsDecided x g l.radius l.period decision
  pub written : a ≡ written_decision decision

-- this is a right answer, within the limits, to the question about equality: whether each of the rules x and y is true at every cell of every
-- configuration that obeys the other
pub record IsRightEqual (l : Limits) (x y : LocalRule) (a : Answer) : Type 0 where
  pub decision : Equality
  pub decided : IsEqualDecided x y l.radius l.period decision
  pub written : a ≡ written_equality decision

-- ---- all questions

-- this is a right answer to the question, within these limits
abbrev pub IsRightTo : Limits → Asked → Answer → Type 0
IsRightTo l (asked.membership x t) a = IsMemberCertificate x t a
IsRightTo l (asked.box x g) a = IsRightBox l x g a
IsRightTo l (asked.equality x y) a = IsRightEqual l x y a
IsRightTo l (asked.listing x) a = IsListCertificate x a
IsRightTo l (asked.density x strip ws) a = IsRightDensity x strip ws a
IsRightTo l (asked.discharge x radius margin vs ws) a = IsRightDischarge x radius margin vs ws l.pivots a
IsRightTo l (asked.minimal x) a = IsMinimalCertificate x a
IsRightTo l (asked.conjugacy c) a = IsRightConjugacy l c a
IsRightTo l (asked.least x along ws) a = IsRightLeast x along ws a

-- a response to the question within these limits: a right answer that an output can hold
pub record IsResponse (l : Limits) (k : Asked) (a : Answer) : Type 0 where
  pub right : IsRightTo l k a
  -- an output can hold the answer: each number and each list is within its bounds
  pub writable : IsWritable a

-- whether the answer is UNKNOWN, with a reason after this word in its first line
abbrev pub is_unknown : Answer → Bool
is_unknown a = starts_with nat_eq (verdict_text a) (codes "UNKNOWN ")
