use Rattle.std.proofs.Common.{◌+◌, ◌-◌, ◌≤◌, length, take, drop}
use Rattle.dd_lattice.proofs.MergeLaws.{IsMerged}
use Rattle.dd_lattice.proofs.merging.merged.Given as goal

abbrev pub invariant-loop-i : goal.invariant-loop-i
invariant-loop-i l =
    IsMerged (take l.i l.left) (drop l.i l.left) (take l.j l.right) (drop l.j l.right) l.members.items
    × (l.i ≤ length l.left) × (l.j ≤ length l.right)

abbrev pub decreases-loop-i : goal.decreases-loop-i
decreases-loop-i l = length l.left - l.i + (length l.right - l.j)
