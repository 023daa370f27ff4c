use Rattle.dd_answer.proofs.QueryLaws.{one_line}
use Rattle.dd_answer.proofs.laws.one_line.Goals as goal

pub returns : goal.returns
returns c = one_line c.args.script.now c.sound_questions.ensures c.one_response.ensures
