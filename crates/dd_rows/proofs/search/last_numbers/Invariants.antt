use Rattle.std.proofs.Common.{◌≡◌, take, map}
use Rattle.dd_rows.specs.listing.Levels.{last_number}
use Rattle.dd_rows.proofs.search.last_numbers.Given as goal

abbrev pub invariant-loop-cell : goal.invariant-loop-cell
invariant-loop-cell l = l.numbers.items ≡ map (last_number l.rule l.cells) (take l.cell-index l.cells)
