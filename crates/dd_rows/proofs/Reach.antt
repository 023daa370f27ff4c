-- The regions of a discharge lie near the origin, so they are in range.
use Rattle.std.proofs.Common.{◌≡◌, ◌≤◌, ◌+◌, ℕ, Bool, true, false, List, [], ℤ, pos, ◌+ℤ◌, ◌≤ℤ◌, inl, inr, arith}
use Rattle.std.proofs.lemmas.{Int.ints, List.Elements.All-contains}
use Rattle.std.specs.{Prelude.◌-ℤ◌, Prelude.unsigned_abs, List.All, List.Contains}
use Rattle.dd_lattice.specs.Place.{Place, place, moved, IsCoordinateInRange, IsInRange}
use Rattle.dd_lattice.specs.Boxes.{OnAxis, IsUpTo, IsCentred, is_active}
use Rattle.dd_lattice.specs.Regions.{IsRegionOf, IsMoved, IsNearby, LeavesRange}
use Rattle.dd_values.specs.lemmas.Members.{Contains-nil}
use Rattle.dd_topology.specs.Topology.{reversed}
use Rattle.dd_boxes.specs.Discharges.{IsVector}
use Rattle.dd_rows.specs.Domains.{IsInDomain}

-- at most n from 0 on each axis
record IsWithinReach (n : ℕ) (p : Place) : Type 0 where
  x : unsigned_abs p.x ≤ n
  y : unsigned_abs p.y ≤ n
  z : unsigned_abs p.z ≤ n

on_axis : (active : Bool) (n : ℕ) (c : ℤ) → OnAxis active (IsUpTo n) c → unsigned_abs c ≤ n
on_axis true n c h = let low = h.low in let high = h.high in omega (arith, ints, low, high)
on_axis false n c h = omega (arith, ints, h)

centred_reach : (d n : ℕ) (p : Place) → IsCentred d n p → IsWithinReach n p
centred_reach d n p h = record {
  x = on_axis (is_active d 0) n p.x h.on_x;
  y = on_axis (is_active d 1) n p.y h.on_y;
  z = on_axis (is_active d 2) n p.z h.on_z;
}

vector_reach : (d : ℕ) (v : Place) → IsVector d v → IsWithinReach 4 v
vector_reach d v h = record { x = h.on_x; y = h.on_y; z = h.on_z }

-- if a is within m of 0, and b within n of a, then b is within m + n of 0
far_sum : (a b : ℤ) (m n : ℕ) → unsigned_abs a ≤ m → unsigned_abs (b -ℤ a) ≤ n → unsigned_abs b ≤ m + n
far_sum a b m n h k = omega (arith, ints)

far_back : (a b : ℤ) (m n : ℕ) → unsigned_abs b ≤ m → unsigned_abs (a +ℤ b) ≤ n → unsigned_abs a ≤ n + m
far_back a b m n h k = omega (arith, ints)

far_moved : (a b : ℤ) (m n : ℕ) → unsigned_abs a ≤ m → unsigned_abs b ≤ n → unsigned_abs (a +ℤ (pos 0 -ℤ b)) ≤ m + n
far_moved a b m n h k = omega (arith, ints)

near_axis : (n : ℕ) (c : ℤ) → n ≤ 10 → unsigned_abs c ≤ n → IsCoordinateInRange c
near_axis n c few h = (omega (arith, ints), omega (arith, ints))

reach_in_range : (n : ℕ) (p : Place) → n ≤ 10 → IsWithinReach n p → IsInRange p
reach_in_range n p few h = (near_axis n p.x few h.x, near_axis n p.y few h.y, near_axis n p.z few h.z)

domain_reach : (d radius : ℕ) (vs : List Place) (p : Place) → All (IsVector d) vs → IsInDomain d radius vs p → IsWithinReach (radius + 4) p
domain_reach d radius vs p each (inl here) =
    let r = centred_reach d radius p here in
    let x = r.x in
    let y = r.y in
    let z = r.z in
    record { x = omega (arith, x); y = omega (arith, y); z = omega (arith, z) }
domain_reach d radius vs p each (inr far) =
    let v = far.0 in
    let given = vector_reach d v (All-contains (IsVector d) vs v each far.1) in
    let r = centred_reach d radius (moved p v) far.2 in
    record {
      x = far_back p.x v.x 4 radius given.x r.x;
      y = far_back p.y v.y 4 radius given.y r.y;
      z = far_back p.z v.z 4 radius given.z r.z;
    }

pub moved_stays : (d radius : ℕ) (v by : Place) (around : List Place) → radius ≤ 3 → IsVector d v → by ≡ reversed v → IsRegionOf (IsInDomain d radius []) around →
    LeavesRange (IsMoved around by) → ⊥
moved_stays d radius v by around small is_vector is box leaves =
    let from = rw is at leaves.member in
    let q = from.0 in
    let r = centred_reach d radius q (elim ((box.members q).0 from.1) [ inl here ↦ here | inr far ↦ absurd (Contains-nil far.0 far.1) ]) in
    let given = vector_reach d v is_vector in
    let there : IsWithinReach (radius + 4) (moved q (reversed v)) = record {
      x = far_moved q.x v.x radius 4 r.x given.x;
      y = far_moved q.y v.y radius 4 r.y given.y;
      z = far_moved q.z v.z radius 4 r.z given.z;
    } in
    leaves.outside (reach_in_range (radius + 4) leaves.at (omega (arith, small)) (rw from.2 there))

pub grown_stays : (d radius margin : ℕ) (vs domain : List Place) → radius ≤ 3 → margin ≤ 3 → All (IsVector d) vs → IsRegionOf (IsInDomain d radius vs) domain →
    LeavesRange (IsNearby d margin domain) → ⊥
grown_stays d radius margin vs domain small few each inner leaves =
    let from = leaves.member in
    let q = from.0 in
    let p = leaves.at in
    let here = domain_reach d radius vs q each ((inner.members q).0 from.1) in
    let there = centred_reach d margin (place (p.x -ℤ q.x) (p.y -ℤ q.y) (p.z -ℤ q.z)) from.2 in
    let far : IsWithinReach (radius + 4 + margin) p = record {
      x = far_sum q.x p.x (radius + 4) margin here.x there.x;
      y = far_sum q.y p.y (radius + 4) margin here.y there.y;
      z = far_sum q.z p.z (radius + 4) margin here.z there.z;
    } in
    leaves.outside (reach_in_range (radius + 4 + margin) p (omega (arith, small, few)) far)
