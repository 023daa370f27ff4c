use Rattle.std.proofs.Common.{◌≡◌, take}
use Rattle.std.specs.List.{sum_by}
use Rattle.dd_expansion.specs.Leaves.{clause_count}
use Rattle.dd_expansion.proofs.counting.+count.Given as goal

abbrev pub invariant-count_all-loop-part : goal.invariant-count_all-loop-part
invariant-count_all-loop-part l = l.clauses ≡ sum_by clause_count (take l.part-index l.parts)
