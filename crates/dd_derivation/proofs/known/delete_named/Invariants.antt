use Rattle.std.proofs.Common.{◌≡◌, List, drop}
use Rattle.dd_clause.specs.declared.clause.Literal.{Literal}
use Rattle.dd_derivation.specs.{Derivations.known_after, checking.MarksOf.known_of}
use Rattle.dd_derivation.proofs.known.delete_named.Given as goal

abbrev pub invariant-loop-number : goal.invariant-loop-number
invariant-loop-number l = (cs : List (List Literal)) → known_after (known_of cs l.initial.alive) l.numbers ≡ known_after (known_of cs l.alive) (drop l.number-index l.numbers)
