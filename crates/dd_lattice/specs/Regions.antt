-- Regions: finite sets of positions in range, each a strictly ascending list. Also sets of positions in general, the faults of regions, and the sets
-- that the operations on regions give.
use Rattle.std.specs.{Prelude.ℕ, Prelude.◌≡◌, Prelude.◌↔◌, Prelude.◌⊎◌, Prelude.◌-ℤ◌, Prelude.List, List.All, List.Contains}
use Rattle.std.specs.List.Sorted.{IsStrictlySortedBy}
use Rattle.dd_lattice.specs.{Place.Place, Place.place, Place.moved, Place.IsInRange, Order.place_cmp, Boxes.IsCentred}
use Rattle.dd_lattice.specs.declared.fault.LatticeFault.{LatticeFault}
use Rattle.dd_lattice.specs.declared.fault.LatticeFault.TheVariants.{Range, Memory}

-- the list is a region
pub record IsRegion (ps : List Place) : Type 0 where
  pub ascending : IsStrictlySortedBy place_cmp ps
  pub in_range : All IsInRange ps

-- sets of positions, finite or not
abbrev pub PlaceSet : Type 1
PlaceSet = Place → Type 0

-- the region has exactly the positions of the set
pub record IsRegionOf (S : PlaceSet) (ps : List Place) : Type 0 where
  pub region : IsRegion ps
  pub members : (p : Place) → Contains ps p ↔ S p

-- S is a set of things that have positions, and some member of S has a position out of range
pub record LeavesRangeAt {X : Type 0} (position : X → Place) (S : X → Type 0) : Type 0 where
  pub at : X
  pub member : S at
  pub outside : IsInRange (position at) → ⊥

-- the fault may be given in place of a list of the members of S: `Range` only if some member's position is out of range, and `Memory` always
abbrev pub IsFaultAt : {X : Type 0} → (X → Place) → (X → Type 0) → LatticeFault → Type 0
IsFaultAt position S Range = LeavesRangeAt position S
IsFaultAt position S Memory = Unit {0}

-- some position of the set is out of range
abbrev pub LeavesRange : PlaceSet → Type 0
LeavesRange S = LeavesRangeAt (λ (p : Place). p) S

-- IsFaultAt for a set of positions
abbrev pub IsFaultOf : PlaceSet → LatticeFault → Type 0
IsFaultOf S = IsFaultAt (λ (p : Place). p) S

-- p is in at least one of the two lists
abbrev pub IsInEither : List Place → List Place → PlaceSet
IsInEither ps qs p = Contains ps p ⊎ Contains qs p

-- p is a position of the list, moved by v
abbrev pub IsMoved : List Place → Place → PlaceSet
IsMoved ps v p = (q : Place) × Contains ps q × (p ≡ moved q v)

-- the position of p relative to q
abbrev pub seen_from : Place → Place → Place
seen_from q p = place (p.x -ℤ q.x) (p.y -ℤ q.y) (p.z -ℤ q.z)

-- for some position of the list, its distance from p is at most n on each of the first d axes, and 0 on the others
abbrev pub IsNearby : ℕ → ℕ → List Place → PlaceSet
IsNearby d n ps p = (q : Place) × Contains ps q × IsCentred d n (seen_from q p)
