-- The domain of a discharge along some vectors, and the ground, which is the domain grown by the margin.
use Rattle.std.specs.{Prelude.ℕ, Prelude.◌≡◌, Prelude.◌⊎◌, Prelude.List, List.Contains}
use Rattle.dd_lattice.specs.{Place.Place, Place.moved, Boxes.IsCentred, Regions.PlaceSet, Regions.IsRegionOf, Regions.seen_from}
use Rattle.dd_lattice.specs.declared.position.Cell.{Cell}
use Rattle.dd_formula.specs.LocalRule.{LocalRule}
use Rattle.dd_boxes.specs.Cells.{cells_on}

-- the domain D: the box of this radius centred at the origin, and for each vector v this box moved by -v
abbrev pub IsInDomain : ℕ → ℕ → List Place → PlaceSet
IsInDomain d radius vs p = IsCentred d radius p ⊎ ((v : Place) × Contains vs v × IsCentred d radius (moved p v))

-- the ground G: D grown by the margin along each active axis (the first d axes are active)
abbrev pub IsInGround : ℕ → ℕ → ℕ → List Place → PlaceSet
IsInGround d radius margin vs p = (q : Place) × IsInDomain d radius vs q × IsCentred d margin (seen_from q p)

-- cs are the cells of G, in cell order
pub record IsGround (x : LocalRule) (radius margin : ℕ) (vs : List Place) (cs : List Cell) : Type 0 where
  pub positions : List Place
  pub region : IsRegionOf (IsInGround x.dimension radius margin vs) positions
  pub cells : cs ≡ cells_on x.nodes positions
