use Rattle.std.proofs.Common.{◌≡◌, true, take}
use Rattle.dd_clause.specs.declared.clause.Literal.{Literal}
use Rattle.dd_derivation.specs.Derivations.{is_among}
use Rattle.dd_elimination.proofs.reduction.are_among.Given as goal

abbrev pub invariant-loop-literal : goal.invariant-loop-literal
invariant-loop-literal l = (x : Literal) → is_among (take l.literal-index l.literals) x ≡ true → is_among l.others x ≡ true
