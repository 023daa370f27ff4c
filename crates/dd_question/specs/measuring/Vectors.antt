-- The tests of the vectors of a discharge.
use Rattle.std.specs.Prelude.{◌≤◌, ◌&&◌, Bool, true, not, List, [], ◌∷◌, unsigned_abs}
use Rattle.std.specs.{List.list_any, Ordering.is_eq}
use Rattle.dd_lattice.specs.{Place.Place, Order.place_cmp}

-- the vector is at most 4 long along each axis
pub record IsNear (v : Place) : Type 0 where
  pub on_x : unsigned_abs v.x ≤ 4
  pub on_y : unsigned_abs v.y ≤ 4
  pub on_z : unsigned_abs v.z ≤ 4

-- the vector is in the list
abbrev pub is_among : Place → List Place → Bool
is_among p vs = list_any (λ q. is_eq (place_cmp p q)) vs

-- no vector occurs twice in the list
abbrev pub are_apart : List Place → Bool
are_apart [] = true
are_apart (v ∷ vs) = not (is_among v vs) && are_apart vs
