use Rattle.std.proofs.Common.{◌+◌, ◌*◌, ◌-◌, ◌≤◌, pos, ◌-ℤ◌}
use Rattle.dd_lattice.specs.{Regions.IsRegionOf, listing.Growth.IsStretched}
use Rattle.dd_lattice.proofs.growing.stretched.Given as goal

abbrev pub invariant-loop-copies : goal.invariant-loop-copies
invariant-loop-copies l =
    IsRegionOf (IsStretched l.axis (pos 0 -ℤ pos l.by) (pos l.copies -ℤ pos l.by) l.region) l.run
    × (1 ≤ l.copies) × (l.copies ≤ 2 * l.by + 1)

abbrev pub decreases-loop-copies : goal.decreases-loop-copies
decreases-loop-copies l = 2 * l.by + 1 - l.copies
