use Rattle.std.proofs.Common.{◌≡◌, ◌≤◌, ◌-◌, map}
use Rattle.std.specs.List.{range_with_len}
use Rattle.dd_maps.specs.Pairs.{own_symbol}
use Rattle.dd_maps.proofs.pairs.own_symbols.Given as goal

abbrev pub invariant-loop-symbol : goal.invariant-loop-symbol
invariant-loop-symbol l = (1 ≤ l.symbol) × (l.cases.items ≡ map own_symbol (range_with_len 1 (l.symbol - 1)))
