use Rattle.std.proofs.{Common.arith, lemmas.Grind.common_steps}
use Rattle.dd_contain.proofs.questions.BoxQuestionQuestions.refutation.Goals as goal

pub returns-in-Refuted-clause-found : goal.returns-in-Refuted-clause-found
returns-in-Refuted-clause-found c = grind (arith, common_steps)

pub returns-clause-found : goal.returns-clause-found
returns-clause-found c = grind (arith, common_steps)
