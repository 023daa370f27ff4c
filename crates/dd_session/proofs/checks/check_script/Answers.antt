use Rattle.dd_session.proofs.{Numbered.few_queries, CheckedOver.judged_over, CheckedOver.few_answers}
use Rattle.dd_session.proofs.checks.check_script.Goals as goal

pub check_all-requires-clause-few_queries : goal.check_all-requires-clause-few_queries
check_all-requires-clause-few_queries g c = few_queries c.args.output.now.script c.args.script.now c.requires.spelled

pub check_all-requires-clause-few_answers : goal.check_all-requires-clause-few_answers
check_all-requires-clause-few_answers g c = few_answers c.args.output.now c.as_slice-answers.result.now c.requires.writable c.as_slice-answers.ensures

pub returns-in-Ok-clause-checked : goal.returns-in-Ok-clause-checked
returns-in-Ok-clause-checked g c =
    judged_over _ c.args.output.now c.args.script.now c.as_slice-answers.result.now c.in-Ok.accepted _ c.requires.writable c.requires.spelled
    c.as_slice-answers.ensures c.in-Ok.ensures.wrote c.checked_status.ensures
