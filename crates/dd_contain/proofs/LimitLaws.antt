-- What the search may ask within a question's limits, and how the decision follows from what the search finds.
use Rattle.std.proofs.Common.{◌≡◌, ℕ, ◌≤◌, subst, arith}
use Rattle.std.specs.Prelude.{max}
use Rattle.dd_derivation.specs.Derivations.{IsRefuting}
use Rattle.dd_problem.specs.Problems.{box_problem}
use Rattle.dd_lattice.specs.Boxes.{centred, volume}
use Rattle.dd_formula.specs.LocalRule.{LocalRule, IsRule}
use Rattle.dd_boxes.specs.{Goals.GoalOf, Goals.IsGoalFor, Boxes.Suffices, Boxes.IsLeastRadius, Counts.IsSmallQuestion}
use Rattle.dd_boxes.specs.lemmas.{FromBox.from_least, SizeLaws.fewer, SizeLaws.box_up}
use Rattle.dd_pattern.specs.{declared.periods.Periods.Periods, Periods.AreWithin, Periods.periods_volume as tile_volume}
use Rattle.dd_contain.specs.declared.decision.Decision.{Decision}
use Rattle.dd_contain.specs.declared.decision.Decision.TheVariants.{Yes, No, Unknown}
use Rattle.dd_contain.specs.{Decided.IsDecidedBy, searching.Listed.AsksRadii, searching.Listed.AsksWithin}
use Rattle.dd_contain.specs.Questions.{AsksRadius, AsksPeriods, RefutesByNumbers, ShowsAt, Displays, IsDecided, HasNumbers}
use Rattle.dd_contain.proofs.CountLaws.{torus_up}

within_most : (d p m : ℕ) (q : Periods) → p ≤ m → AreWithin d p q → AreWithin d m q
within_most d p m q le within =
    let x = within.x_most in
    let y = within.y_most in
    let z = within.z_most in
    record { periods = within.periods; x_most = omega (arith, x, le); y_most = omega (arith, y, le); z_most = omega (arith, z, le) }

module _ (x : LocalRule) (g : GoalOf) (n p least : ℕ) (rule : IsRule x) (ok : IsGoalFor x g) (is : IsLeastRadius g least) (small : IsSmallQuestion x g n p) where
  pub radii_asked : (most : ℕ) → most ≡ max n least → AsksRadii (AsksRadius x g) least most
  radii_asked most top k low high = record {
    goal = ok;
    reaches = from_least g least k is low;
    few = fewer x g (max n least) p (volume (centred x.dimension k)) (box_up x.dimension k (max n least) p rule.dimension.0 rule.dimension.1 (omega (arith, high, top))) (small least is);
  }

  pub periods_asked : p ≤ 8 → AsksWithin (AsksPeriods x g) x.dimension p
  periods_asked most q within = record {
    goal = ok;
    periods = within_most x.dimension p 8 q most within;
    few = fewer x g (max n least) p (tile_volume q) (torus_up x.dimension (max n least) p q rule.dimension.0 rule.dimension.1 within) (small least is);
  }

  -- a right decision over the radii from `least` to `most` is a right decision within the limits n and p
  pub decided : (most : ℕ) → most ≡ max n least → (decision : Decision) →
      IsDecidedBy (Suffices x g) (RefutesByNumbers x g) (ShowsAt x g) (Displays x g) least most x.dimension p decision → IsDecided x g n p decision
  decided most top decision by = (
    least,
    is,
    found decision
        (subst (λ m. IsDecidedBy (Suffices x g) (RefutesByNumbers x g) (ShowsAt x g) (Displays x g) least m x.dimension p decision) top by),
  )
    where
      found : (decision : Decision) → IsDecidedBy (Suffices x g) (RefutesByNumbers x g) (ShowsAt x g) (Displays x g) least (max n least) x.dimension p decision →
          IsDecidedBy (Suffices x g) (λ k steps. IsRefuting (box_problem x g k) steps) (ShowsAt x g) (Displays x g) least (max n least) x.dimension p decision
      found (Yes m steps) by = (by.0, by.1.refuting)
      found (No tile) by = by
      found Unknown by = by

-- the variables, clauses and steps of a YES stay within their bounds
pub numbered : (x : LocalRule) (g : GoalOf) (least most d p : ℕ) (decision : Decision) →
    IsDecidedBy (Suffices x g) (RefutesByNumbers x g) (ShowsAt x g) (Displays x g) least most d p decision → HasNumbers x g decision
numbered x g least most d p (Yes m steps) by = by.1.numbered
numbered x g least most d p (No tile) by = tt
numbered x g least most d p Unknown by = tt
