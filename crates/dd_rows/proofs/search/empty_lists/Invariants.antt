use Rattle.std.proofs.Common.{◌≡◌, map, []}
use Rattle.std.specs.List.{range_with_len}
use Rattle.dd_rows.specs.listing.Levels.{chosen}
use Rattle.dd_rows.proofs.search.empty_lists.Given as goal

abbrev pub invariant-loop-number : goal.invariant-loop-number
invariant-loop-number l = l.lists.items ≡ map (chosen [] []) (range_with_len 0 l._number)
