use Rattle.dd_contain.proofs.AskingLaws.{right_answer, right_found, right_refuted}
use Rattle.dd_contain.proofs.questions.outcome.Goals as goal
use Rattle.dd_values.specs.lemmas.Results.{any_ok}

pub returns-in-Some-clause-answer : goal.returns-in-Some-clause-answer
returns-in-Some-clause-answer g c = right_answer c.args.cnf.now c.in-Some.proposed (rw c.in-Some.is at c.in_ok-proposed.ensures.right)

pub returns-in-Some-clause-found : goal.returns-in-Some-clause-found
returns-in-Some-clause-found g c = right_found c.args.cnf.now c.in-Some.proposed (rw c.in-Some.is at c.in_ok-proposed.ensures.right)

pub returns-in-Some-clause-refuted : goal.returns-in-Some-clause-refuted
returns-in-Some-clause-refuted g c = right_refuted c.args.cnf.now c.in-Some.proposed (rw c.in-Some.is at c.in_ok-proposed.ensures.right)

pub returns-in-None-clause-engines : goal.returns-in-None-clause-engines
returns-in-None-clause-engines g c = record { kept = c.ask.ensures.kept; first = any_ok c.solve_propagated.result _ c.in_ok-proposed.ensures.first }
