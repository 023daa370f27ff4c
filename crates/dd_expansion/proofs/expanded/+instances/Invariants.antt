use Rattle.std.proofs.Common.{◌≡◌, ◌+◌, take}
use Rattle.std.specs.List.{sum_by}
use Rattle.dd_expansion.specs.Leaves.{instances}
use Rattle.dd_expansion.proofs.expanded.+instances.Given as goal

abbrev pub invariant-joined_instances-loop-part : goal.invariant-joined_instances-loop-part
invariant-joined_instances-loop-part l = l.total ≡ 1 + sum_by instances (take l.part-index l.parts)
