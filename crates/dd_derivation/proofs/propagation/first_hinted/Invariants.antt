use Rattle.std.proofs.Common.{◌≡◌, None, take}
use Rattle.dd_derivation.specs.checking.MarksOf.{first_literal_of, literals_of}
use Rattle.dd_derivation.proofs.propagation.first_hinted.Given as goal

abbrev pub invariant-loop-hint : goal.invariant-loop-hint
invariant-loop-hint l = first_literal_of l.variable (literals_of l.known (take l.hint-index l.hints)) ≡ None
