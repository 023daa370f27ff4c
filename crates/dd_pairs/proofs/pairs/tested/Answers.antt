use Rattle.std.proofs.lemmas.Result.{err_from_is_err_and}
use Rattle.dd_pairs.specs.Made.{comparison_of}
use Rattle.dd_pairs.proofs.{Making.refuses_front, Testing.question_formed}
use Rattle.dd_pairs.proofs.pairs.tested.Goals as goal

pub returns-in_err-pair : goal.returns-in_err-pair
returns-in_err-pair c =
    let p = err_from_is_err_and c.from_residual.result c.from_residual.ensures.1 in
    rw (p.1, p.2) (refuses_front _ _ _ c.in_err-pair.ensures)

pub excess-requires-clause-formed : goal.excess-requires-clause-formed
excess-requires-clause-formed c =
    let made = c.in_ok-pair.ensures in
    question_formed c.args.known.now.setting (comparison_of c.args.comparison) c.in_ok-pair.pair c.premise.result.now _ made.is c.premise.ensures c.question-question.ensures c.requires.sound.setting c.requires.comparison made.formed
