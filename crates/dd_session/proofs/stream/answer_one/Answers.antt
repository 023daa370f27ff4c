use Rattle.std.proofs.Common.{rules, ◌∷◌, []}
use Rattle.dd_session.specs.{writing.Forms.text_in, Written.AnsweredFront}
use Rattle.dd_session.proofs.Streamed.{answered_one, front_of_none, front_of_one}
use Rattle.dd_session.proofs.stream.answer_one.Goals as goal

pub returns-clause-wrote : goal.returns-clause-wrote
returns-clause-wrote g c =
    answered_one (text_in c.args.form) _ _ _ _ _ c.in_ok-found.found c.write_one.result c.in_ok-found.ensures.answer.right c.in_ok-found.ensures.answer.writable
    c.write_one.ensures.unknown c.write_one.ensures.wrote

pub returns-clause-cut : goal.returns-clause-cut
returns-clause-cut g c =
    front_of_one (text_in c.args.form) _ _ _ _ _ c.in_ok-found.found c.write_one.result c.in_ok-found.ensures.answer.right c.in_ok-found.ensures.answer.writable
    c.write_one.ensures.cut
