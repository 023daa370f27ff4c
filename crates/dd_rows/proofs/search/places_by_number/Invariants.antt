use Rattle.std.proofs.Common.{◌≡◌, map, take, length}
use Rattle.std.specs.List.{range_with_len}
use Rattle.dd_rows.specs.listing.Levels.{chosen}
use Rattle.dd_rows.proofs.search.places_by_number.Given as goal

abbrev pub invariant-loop-i : goal.invariant-loop-i
invariant-loop-i l = l.places.items ≡ map (chosen (take l.i l.numbers) (take l.i l.cells)) (range_with_len 0 (length l.cells))
