use Rattle.dd_session.specs.Sides.{change}
use Rattle.dd_session.proofs.{Engaging.never_unanswered, Sampled.lines_over}
use Rattle.dd_session.proofs.session.run_lines.Goals as goal

pub returns-in-Ok-clause-wrote : goal.returns-in-Ok-clause-wrote
returns-in-Ok-clause-wrote g c =
    lines_over (change g.K.Sink.held g.K.Sink.faults c.args.sink.now c.answer_to_end.new.sink) c.args.script.now c.in-Ok.is_open _ c.one_line.ensures c.in-Ok.ensures.whole c.status_of.ensures

pub returns-in-Ok-clause-kept : goal.returns-in-Ok-clause-kept
returns-in-Ok-clause-kept g c = record {
  kept = c.in-Ok.ensures.engines.kept;
  unanswered = λ unanswered. absurd (never_unanswered c.in-Ok.is_open c.status_of.result c.status_of.ensures unanswered);
}

pub returns-in-Ok-clause-asked : goal.returns-in-Ok-clause-asked
returns-in-Ok-clause-asked g c = λ _. c.in-Ok.ensures.engines.asked.first
