-- Which vectors and which weights a discharging question may have: weight is given along the vectors, and each symbol has a weight. The question asks
-- for the best lower bound that a discharge gives on the weight per position in the configurations that obey a rule. In a discharge, each position
-- first holds the weight of its symbols, and then gives amounts of weight along the vectors.
use Rattle.std.specs.Prelude.{ℕ, ◌≤◌, ◌≡◌, true, unsigned_abs, List, length}
use Rattle.std.specs.{List.All, List.IsDistinct, Ordering.is_eq}
use Rattle.dd_values.specs.Bounds.{most_weight}
use Rattle.dd_lattice.specs.{Place.Place, Order.place_cmp}
use Rattle.dd_expansion.specs.Placed.{is_flat}
use Rattle.dd_formula.specs.LocalRule.{LocalRule}

-- each coordinate is at most 4 in absolute value, and 0 along the axes past the dimension
pub record IsVector (d : ℕ) (v : Place) : Type 0 where
  pub on_x : unsigned_abs v.x ≤ 4
  pub on_y : unsigned_abs v.y ≤ 4
  pub on_z : unsigned_abs v.z ≤ 4
  pub flat : is_flat d v ≡ true

-- from 1 to 16 such vectors, all of them different
pub record AreVectors (d : ℕ) (vs : List Place) : Type 0 where
  pub some : 1 ≤ length vs
  pub few : length vs ≤ 16
  pub distinct : IsDistinct (λ p q. is_eq (place_cmp p q)) vs
  pub each : All (IsVector d) vs

-- a weight for each symbol, none of them above `most_weight`
pub record AreWeightsFor (x : LocalRule) (ws : List ℕ) : Type 0 where
  pub as_many : length ws ≡ x.symbols
  pub small : All (λ w. w ≤ most_weight) ws
