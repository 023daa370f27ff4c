-- The equality of two rules: whether no configuration that obeys one of them breaks the other. This comes down to two box questions, each with one of
-- the rules as its premise. The answers to the question of equality are called Same (YES), Differ (NO) and Open (unknown) here. Those to the two box
-- questions keep the names Yes, No and Unknown.
use Rattle.std.specs.Prelude.{ℕ, ◌≡◌}
use Rattle.dd_derivation.specs.Sizes.{AreNumbered}
use Rattle.dd_formula.specs.LocalRule.{LocalRule}
use Rattle.dd_boxes.specs.Goals.{breaks}
use Rattle.dd_contain.specs.declared.decision.Decision.{Decision}
use Rattle.dd_contain.specs.declared.decision.Decision.TheVariants.{Yes, No, Unknown}
use Rattle.dd_contain.specs.declared.equal.{Half.TheVariants.Left, Half.TheVariants.Right, Equality.Equality}
use Rattle.dd_contain.specs.declared.equal.Equality.TheVariants.{Yes as Same, No as Differ, Unknown as Open}
use Rattle.dd_contain.specs.Questions.{IsDecided}
use Rattle.dd_problem.specs.Problems.{box_problem}

-- The join of two answers. It is NO with the left side if the left answer is NO, else NO with the right side if the right answer is NO, else YES if
-- both are YES, else unknown.
abbrev pub joined : Decision → Decision → Equality
joined (No tile) right = Differ Left tile
joined (Yes n steps) (No tile) = Differ Right tile
joined Unknown (No tile) = Differ Right tile
joined (Yes n steps) (Yes m others) = Same (record { radius = n; steps = steps }) (record { radius = m; steps = others })
joined (Yes n steps) Unknown = Open
joined Unknown (Yes m others) = Open
joined Unknown Unknown = Open

-- P, unless the answer is NO
abbrev pub UnlessNo : Decision → Type 0 → Type 0
UnlessNo (No tile) P = Unit {0}
UnlessNo (Yes n steps) P = P
UnlessNo Unknown P = P

-- The answer is the join of two answers within the limits n on radii and p on periods. The left one decides whether no configuration that obeys x
-- breaks y, and the right one whether no configuration that obeys y breaks x. If the left answer is NO, the right one may be anything.
pub record IsEqualDecided (x y : LocalRule) (n p : ℕ) (equality : Equality) : Type 0 where
  pub left : Decision
  pub right : Decision
  pub left_decided : IsDecided x (breaks y) n p left
  pub right_decided : UnlessNo left (IsDecided y (breaks x) n p right)
  pub join : equality ≡ joined left right

-- if the answer is YES, each question's box has clauses with at most 2^24 variables, and the number of its clauses and steps together fits in 64 bits
abbrev pub HasBothNumbers : LocalRule → LocalRule → Equality → Type 0
HasBothNumbers x y (Same left right) =
    AreNumbered (box_problem x (breaks y) left.radius) left.steps × AreNumbered (box_problem y (breaks x) right.radius) right.steps
HasBothNumbers x y (Differ side tile) = Unit {0}
HasBothNumbers x y Open = Unit {0}

-- The answer within the limits n on radii and p on periods.
pub record IsEquality (x y : LocalRule) (n p : ℕ) (equality : Equality) : Type 0 where
  -- It is the join of the answers to the two questions.
  pub decided : IsEqualDecided x y n p equality
  -- The variables, clauses and steps of a YES stay within their bounds.
  pub numbered : HasBothNumbers x y equality
