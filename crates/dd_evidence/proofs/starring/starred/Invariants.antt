use Rattle.std.proofs.Common.{◌≡◌, take}
use Rattle.dd_evidence.proofs.starring.starred.Given as goal

abbrev pub invariant-loop-symbol : goal.invariant-loop-symbol
invariant-loop-symbol l = l.symbols ≡ take l.symbol-index l.symbol-items
