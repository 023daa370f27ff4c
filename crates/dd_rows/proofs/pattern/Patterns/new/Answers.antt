use Rattle.std.proofs.Common.{sym, subst}
use Rattle.std.specs.{List.Sorted.IsStrictlySortedBy, Ordering.nat_cmp, Cmp.Lexicographic.slice_cmp}
use Rattle.dd_rows.proofs.SortedLists.{ascends_empty}
use Rattle.dd_rows.proofs.pattern.Patterns.new.Goals as goal

pub invariant_of-result : goal.invariant_of-result
invariant_of-result c = subst (IsStrictlySortedBy (slice_cmp nat_cmp)) (sym c.new.ensures.items) (ascends_empty (slice_cmp nat_cmp))
