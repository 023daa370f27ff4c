use Rattle.dd_session.proofs.{Engaging.never_unanswered, Open.whole_over}
use Rattle.dd_session.proofs.session.run_accepted.Goals as goal

pub returns-in-Ok-clause-ran : goal.returns-in-Ok-clause-ran
returns-in-Ok-clause-ran g c =
    whole_over _ c.args.bytes.now c.args.script.now c.in-Ok.has_unknown _ c.one_line.ensures c.requires c.in-Ok.ensures.whole c.status_of.ensures

pub returns-in-Ok-clause-kept : goal.returns-in-Ok-clause-kept
returns-in-Ok-clause-kept g c = record {
  kept = c.in-Ok.ensures.engines.kept;
  unanswered = λ unanswered. absurd (never_unanswered c.in-Ok.has_unknown c.status_of.result c.status_of.ensures unanswered);
}

pub returns-in-Ok-clause-asked : goal.returns-in-Ok-clause-asked
returns-in-Ok-clause-asked g c = λ _. c.in-Ok.ensures.engines.asked.first
