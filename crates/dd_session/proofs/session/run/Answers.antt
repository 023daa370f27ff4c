use Rattle.dd_session.proofs.{Decided.ended_run, Decided.took_all, Engaging.has_begun, Engaging.asks_first, Engaging.never_to_end}
use Rattle.dd_session.specs.Sides.{change}
use Rattle.dd_session.proofs.session.run.Goals as goal

pub returns-in-Ok-clause-ended : goal.returns-in-Ok-clause-ended
returns-in-Ok-clause-ended g c =
    ended_run (change g.S.Source.left g.S.Source.faults c.args.source.now c.read_all.new.source) _ c.in-Ok.bytes.items c.deref.result.now _
    c.in-Ok.ensures.bytes c.in-Ok.ensures.fits c.deref.ensures.value c.run_bytes.ensures.ran

pub returns-in-Ok-clause-taken : goal.returns-in-Ok-clause-taken
returns-in-Ok-clause-taken g c = took_all _ _ c.in-Ok.bytes.items c.in-Ok.ensures.bytes c.in-Ok.ensures.fits

pub returns-in-Ok-clause-late : goal.returns-in-Ok-clause-late
returns-in-Ok-clause-late g c =
    has_begun _ _ _ _ _ c.in-Ok.bytes.items c.deref.result.now c.in-Ok.ensures.bytes c.in-Ok.ensures.fits c.deref.ensures.value c.run_bytes.ensures.late

pub returns-in-Ok-clause-asked : goal.returns-in-Ok-clause-asked
returns-in-Ok-clause-asked g c = λ to_end.
    asks_first _ _ _ _ c.in-Ok.bytes.items c.deref.result.now c.in-Ok.ensures.bytes c.deref.ensures.value (c.run_bytes.ensures.asked to_end)

pub returns-in-Err-TooLong-clause-asked : goal.returns-in-Err-TooLong-clause-asked
returns-in-Err-TooLong-clause-asked g c = λ to_end.
    absurd (never_to_end (change g.K.Sink.held g.K.Sink.faults c.args.sink.now c.refuse.new.sink) _ _ c.refuse.ensures.wrote to_end)
