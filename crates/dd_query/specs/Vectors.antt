-- Written vectors, and the positions that they stand for.
use Rattle.std.specs.{Prelude.◌≡◌, Prelude.ℕ, Prelude.List, Prelude.false, Prelude.ℤ, Prelude.pos, List.slice_get, Option.option_map_or}
use Rattle.dd_lattice.specs.Place.{Place, place}
use Rattle.dd_faults.specs.{Tree.Vector, Commands.signed_value, Commands.is_far}

-- the coordinate along an axis: the value of the vector's entry for this axis, or 0 if the vector has none
abbrev pub coordinate : List ℕ → Vector → ℕ → ℤ
coordinate bytes v axis = option_map_or (signed_value bytes) (slice_get v.entries axis) (pos 0)

-- the position whose coordinates are the first three entries of this vector; missing coordinates are 0
abbrev pub place_of : List ℕ → Vector → Place
place_of bytes v = place (coordinate bytes v 0) (coordinate bytes v 1) (coordinate bytes v 2)

-- no entry is over 4 (`farthest`) in absolute value
abbrev pub IsClose : List ℕ → Vector → Type 0
IsClose bytes v = is_far bytes v ≡ false
