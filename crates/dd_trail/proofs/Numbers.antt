-- The list of the known clauses by number has one place for each clause, including the deleted ones.
use Rattle.std.proofs.Common.{◌≡◌, suc, ◌≤◌, Bool, List, [], ◌∷◌, length, refl, ap, arith}
use Rattle.dd_clause.specs.declared.clause.Literal.{Literal}
use Rattle.dd_derivation.specs.checking.MarksOf.{known_of}

pub length-known_of : (cs : List (List Literal)) (alive : List Bool) → length cs ≤ length alive → length (known_of cs alive) ≡ length cs
length-known_of [] alive h = refl
length-known_of (c ∷ cs) [] h = absurd (omega arith)
length-known_of (c ∷ cs) (a ∷ alive) h = ap suc (length-known_of cs alive (omega arith))
