use Rattle.std.proofs.Common.{◌≡◌, ◌≤◌, take, length}
use Rattle.std.specs.List.{flat_map}
use Rattle.dd_rows.specs.{Fillings.most_fillings, listing.Levels.extended, listing.Formulas.are_all_true}
use Rattle.dd_rows.proofs.search.next_level.Given as goal

abbrev pub invariant-loop-symbols : goal.invariant-loop-symbols
invariant-loop-symbols l = (l.next ≡ flat_map (extended l.rule (are_all_true l.formulas) l.node) (take l.symbols-index l.level)) × (length l.next ≤ most_fillings)
