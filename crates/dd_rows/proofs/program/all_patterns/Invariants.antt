use Rattle.std.proofs.Common.{◌≡◌, ◌≤◌, take, length}
use Rattle.std.specs.List.{flat_map}
use Rattle.dd_rows.specs.{Patterns.in_lexicographic_order, Programs.column_count, Programs.most_columns, listing.Views.patterns_seen}
use Rattle.dd_rows.proofs.program.all_patterns.Given as goal

abbrev pub invariant-loop-symbols : goal.invariant-loop-symbols
invariant-loop-symbols l =
    (l.patterns ≡ in_lexicographic_order (flat_map (patterns_seen l.views) (take l.symbols-index l.fillings)))
    × (column_count (length l.views.givers) (length l.patterns) ≤ most_columns)
