-- The ranges of the limits on the work for one answer.
use Rattle.std.specs.Prelude.{◌≤◌}
use Rattle.dd_values.specs.{declared.limits.Limits.Limits, Bounds.greatest_radius, Bounds.greatest_period, Bounds.most_pivots}

-- The limits l are in their ranges. So a script may set them.
pub record AreLimits (l : Limits) : Type 0 where
  pub radius : l.radius ≤ greatest_radius
  pub period : (1 ≤ l.period) × (l.period ≤ greatest_period)
  pub pivots : l.pivots ≤ most_pivots
