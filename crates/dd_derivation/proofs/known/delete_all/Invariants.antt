use Rattle.std.proofs.Common.{◌≡◌, ◌≤◌, ℕ, List, false, length, drop, get_or}
use Rattle.dd_clause.specs.declared.clause.Literal.{Literal}
use Rattle.dd_derivation.specs.{Derivations.are_deletable, Derivations.known_after, checking.MarksOf.known_of}
use Rattle.dd_derivation.proofs.known.delete_all.Given as goal

abbrev pub invariant-loop-number : goal.invariant-loop-number
invariant-loop-number l = record {
  value : (cs : List (List Literal)) → length cs ≡ l.count → are_deletable (known_of cs l.initial.alive) l.numbers ≡ are_deletable (known_of cs l.alive) (drop l.number-index l.numbers);
  after : (cs : List (List Literal)) → known_after (known_of cs l.initial.alive) l.numbers ≡ known_after (known_of cs l.alive) (drop l.number-index l.numbers);
  later : (k : ℕ) → l.count ≤ k → get_or l.alive k false ≡ get_or l.initial.alive k false;
}
