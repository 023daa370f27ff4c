use Rattle.std.proofs.Common.{◌≡◌, ◌∷◌, [], ◌++◌, map, take}
use Rattle.std.specs.Prelude.{not}
use Rattle.dd_clause.specs.Clauses.{negation}
use Rattle.dd_cnf.specs.Encoding.{signed}
use Rattle.dd_cnf.proofs.encoding.push_and_or.Given as goal

abbrev pub invariant-loop-member : goal.invariant-loop-member
invariant-loop-member l = record {
  variables : l.cnf.variables ≡ l.initial.cnf.variables;
  clauses : l.cnf.clauses ≡ l.initial.cnf.clauses ++ map (λ m. negation l.gate ∷ signed l.gate.positive m ∷ []) (take l.member-index l.members);
  last : l.last.items ≡ l.gate ∷ map (signed (not l.gate.positive)) (take l.member-index l.members);
}
