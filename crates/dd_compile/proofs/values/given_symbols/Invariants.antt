use Rattle.std.proofs.Common.{◌≡◌, map, take}
use Rattle.dd_compile.proofs.values.given_symbols.Given as goal

abbrev pub invariant-loop-symbol : goal.invariant-loop-symbol
invariant-loop-symbol l = l.symbols.items ≡ map (λ case. case.1) (take l.symbol-index l.cases.cases)
