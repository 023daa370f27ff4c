use Rattle.std.proofs.Common.{rules}
use Rattle.std.specs.Prelude.{◌↔◌}
use Rattle.dd_values.specs.lemmas.Results.{if_ok}
use Rattle.dd_solver.specs.{Answers.IsSatisfiable, Answers.IsFound, Answers.IsRefuted, Answers.IsAnswer, lemmas.Right.found_right, lemmas.Right.refuted_right}
use Rattle.dd_elimination.proofs.search.solve_propagated.Goals as goal

pub returns-clause-found : goal.returns-clause-found
returns-clause-found c =
    let cnf = c.args.cnf.now in
    if_ok c.propagated_answer.result (IsAnswer cnf.variables cnf.clauses) (λ o. IsFound o ↔ IsSatisfiable cnf.clauses) (found_right cnf.variables cnf.clauses) (search rules)

pub returns-clause-refuted : goal.returns-clause-refuted
returns-clause-refuted c =
    let cnf = c.args.cnf.now in
    if_ok c.propagated_answer.result (IsAnswer cnf.variables cnf.clauses) (λ o. IsRefuted o ↔ ¬ (IsSatisfiable cnf.clauses)) (refuted_right cnf.variables cnf.clauses) (search rules)
