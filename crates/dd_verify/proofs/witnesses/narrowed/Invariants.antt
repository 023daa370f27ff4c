use Rattle.dd_verify.proofs.Narrowing.{IsNarrowed}
use Rattle.dd_verify.proofs.witnesses.narrowed.Given as goal

abbrev pub invariant-loop-symbol : goal.invariant-loop-symbol
invariant-loop-symbol l = IsNarrowed l.symbols l.size l.symbol-index l.list.items
