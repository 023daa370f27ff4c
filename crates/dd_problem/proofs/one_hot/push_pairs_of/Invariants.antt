use Rattle.std.proofs.Common.{◌≡◌, ◌++◌, ◌∷◌, [], map, false}
use Rattle.dd_cnf.specs.Encoding.{literal}
use Rattle.dd_problem.specs.lemmas.RangesLeft.{range_to}
use Rattle.dd_problem.proofs.one_hot.push_pairs_of.Given as goal

abbrev pub invariant-loop-other : goal.invariant-loop-other
invariant-loop-other l = record {
  variables : l.cnf.variables ≡ l.initial.cnf.variables;
  clauses : l.initial.cnf.clauses ++ map (λ w. literal l.first false ∷ literal w false ∷ []) (range_to l.from l.end)
      ≡ l.cnf.clauses ++ map (λ w. literal l.first false ∷ literal w false ∷ []) (range_to l.other l.end);
}
