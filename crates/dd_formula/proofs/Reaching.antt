-- Positions near the origin, and their sums.
use Rattle.std.proofs.{Common.◌≤◌, Common.ℤ, Common.◌+ℤ◌, Common.arith, lemmas.Int.ints}
use Rattle.std.specs.Prelude.{unsigned_abs}
use Rattle.dd_lattice.specs.Place.{Place, IsCoordinateInRange, IsInRange, moved}
use Rattle.dd_topology.specs.Topology.{extent}

axis_near : (a b : ℤ) → unsigned_abs a ≤ 16 → unsigned_abs b ≤ 16 → IsCoordinateInRange (a +ℤ b)
axis_near a b p q = (omega (arith, ints), omega (arith, ints))

-- the sum of two positions near the origin is in range
pub near_sum : (p by : Place) → extent p ≤ 16 → extent by ≤ 16 → IsInRange (moved p by)
near_sum p by h h' = (axis_near p.x by.x (omega arith) (omega arith), axis_near p.y by.y (omega arith) (omega arith), axis_near p.z by.z (omega arith) (omega arith))
