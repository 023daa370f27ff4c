use Rattle.dd_session.specs.Sides.{change}
use Rattle.dd_session.proofs.{Engaging.begun, Refused.line_over, Refused.refused_to_end}
use Rattle.dd_session.proofs.session.run_bytes.Goals as goal

pub returns-in-Err-clause-ran : goal.returns-in-Err-clause-ran
returns-in-Err-clause-ran g c =
    line_over _ c.args.bytes.now c.in-Err.fault.command c.in-Err.fault.kind _ c.in-Err.ensures.refused c.refuse_fault.ensures.wrote

pub returns-in-Ok-clause-late : goal.returns-in-Ok-clause-late
returns-in-Ok-clause-late g c = begun _ _ _ _ c.in-Ok.script c.in-Ok.ensures.spelled c.run_accepted.ensures.late

pub returns-in-Ok-clause-asked : goal.returns-in-Ok-clause-asked
returns-in-Ok-clause-asked g c = λ to_end. record {
  script = c.in-Ok.script;
  spelled = c.in-Ok.ensures.spelled;
  first = c.run_accepted.ensures.asked to_end;
}

pub returns-in-Err-clause-asked : goal.returns-in-Err-clause-asked
returns-in-Err-clause-asked g c = λ to_end.
    absurd (refused_to_end (change g.K.Sink.held g.K.Sink.faults c.args.sink.now c.refuse_fault.new.sink) _ c.in-Err.fault.command c.in-Err.fault.kind _
    c.refuse_fault.ensures.wrote to_end)
