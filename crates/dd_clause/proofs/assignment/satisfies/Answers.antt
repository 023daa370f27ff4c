use Rattle.std.proofs.{Common.◌≡◌, Common.List, Common.true, Common.get_or, Common.arith, lemmas.List.Elements.All-more}
use Rattle.std.proofs.lemmas.Grind.{elements}
use Rattle.dd_clause.specs.{declared.clause.Literal.Literal, Clauses.is_clause_true}
use Rattle.dd_values.specs.Variables.{true_variables}
use Rattle.dd_clause.proofs.assignment.satisfies.Goals as goal

pub loop-clause-preserved : goal.loop-clause-preserved
loop-clause-preserved c =
    let P : List Literal → Type 0 = λ x. is_clause_true (true_variables c.values-values.result.now) x ≡ true in
    let here : P (get_or c.clauses-clause-items.result.now c.loop-clause.clause-index c.clause-item.result) = cc in
    All-more P _ _ c.clause-item.result (omega arith) c.loop-clause.invariant here

pub returns : goal.returns
returns c = grind (arith, elements)
