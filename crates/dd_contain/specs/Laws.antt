-- The law of the three answers to a box question.
use Rattle.std.specs.Prelude.{ℕ, ◌↔◌}
use Rattle.dd_formula.specs.LocalRule.{LocalRule}
use Rattle.dd_boxes.specs.{Goals.GoalOf, Boxes.Suffices}
use Rattle.dd_pattern.specs.{declared.periods.Periods.Periods, Periods.AreWithin}
use Rattle.dd_contain.specs.declared.decision.Decision.{Decision}
use Rattle.dd_contain.specs.declared.decision.Decision.TheVariants.{Yes, No, Unknown}
use Rattle.dd_contain.specs.Questions.{ShowsAt}

-- the answer is YES
abbrev pub IsDecidedYes : Decision → Type 0
IsDecidedYes (Yes n steps) = Unit {0}
IsDecidedYes (No tile) = ⊥
IsDecidedYes Unknown = ⊥

-- the answer is NO
abbrev pub IsDecidedNo : Decision → Type 0
IsDecidedNo (Yes n steps) = ⊥
IsDecidedNo (No tile) = Unit {0}
IsDecidedNo Unknown = ⊥

-- the answer is unknown
abbrev pub IsUndecided : Decision → Type 0
IsUndecided (Yes n steps) = ⊥
IsUndecided (No tile) = ⊥
IsUndecided Unknown = Unit {0}

-- some configuration of periods up to p, with some shear, lives in the premise's subshift and has the goal at the origin
abbrev pub IsShown : LocalRule → GoalOf → ℕ → Type 0
IsShown x g p = (q : Periods) × AreWithin x.dimension p q × ShowsAt x g q

-- This says exactly when each answer is given, and that the conditions of YES and NO exclude each other. `most` is the radius of the largest box that
-- may be tried, and periods are at most p.
pub record Trichotomy (x : LocalRule) (g : GoalOf) (most p : ℕ) (decision : Decision) : Type 0 where
  pub yes : IsDecidedYes decision ↔ Suffices x g most
  pub no : IsDecidedNo decision ↔ IsShown x g p
  pub unknown : IsUndecided decision ↔ ((Suffices x g most → ⊥) × (IsShown x g p → ⊥))
  pub never_both : Suffices x g most → IsShown x g p → ⊥
