use Rattle.std.proofs.Common.{◌≡◌, ◌++◌, take}
use Rattle.std.specs.List.{flat_map}
use Rattle.dd_certificate.specs.Text.{symbol_or_star_after_space}
use Rattle.dd_certificate.proofs.writing.push_symbols_and_stars_to_end.Given as goal

abbrev pub invariant-loop-symbol : goal.invariant-loop-symbol
invariant-loop-symbol l = l.text.items ≡ l.initial.text.items ++ flat_map symbol_or_star_after_space (take l.symbol-index l.symbols)
