use Rattle.std.proofs.Common.{rules}
use Rattle.std.specs.Prelude.{◌↔◌}
use Rattle.dd_solver.specs.Answers.{IsSatisfiable, IsFound, IsRefuted, IsAnswer}
use Rattle.dd_solver.specs.lemmas.Right.{found_right, refuted_right}
use Rattle.dd_solver.proofs.search.solve_with.Goals as goal
use Rattle.dd_values.specs.lemmas.Results.{if_ok}

pub returns-clause-found : goal.returns-clause-found
returns-clause-found c =
    let cnf = c.args.cnf.now in
    if_ok c.run.result (IsAnswer cnf.variables cnf.clauses) (λ o. IsFound o ↔ IsSatisfiable cnf.clauses) (found_right cnf.variables cnf.clauses) (search rules)

pub returns-clause-refuted : goal.returns-clause-refuted
returns-clause-refuted c =
    let cnf = c.args.cnf.now in
    if_ok c.run.result (IsAnswer cnf.variables cnf.clauses) (λ o. IsRefuted o ↔ ¬ (IsSatisfiable cnf.clauses)) (refuted_right cnf.variables cnf.clauses) (search rules)
