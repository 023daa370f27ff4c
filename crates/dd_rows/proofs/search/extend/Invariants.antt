use Rattle.std.proofs.Common.{◌≡◌, ◌≤◌, ◌++◌, length}
use Rattle.dd_rows.specs.{Fillings.most_fillings, listing.Levels.extended_below, listing.Formulas.are_all_true}
use Rattle.dd_rows.proofs.search.extend.Given as goal

abbrev pub invariant-loop-symbol : goal.invariant-loop-symbol
invariant-loop-symbol l = (l.longer.items ≡ l.symbols) × (l.next ≡ l.initial.next ++ extended_below l.rule (are_all_true l.formulas) l.node l.symbols l.symbol) × (length l.next ≤ most_fillings)
