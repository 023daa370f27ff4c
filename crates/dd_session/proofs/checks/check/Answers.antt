use Rattle.std.proofs.Common.{rules}
use Rattle.dd_outside.specs.Bytes.{GivesMore}
use Rattle.dd_session.specs.{Sides.change, Checks.most_checked}
use Rattle.dd_session.proofs.CheckEnds.{ended_check, check_long, took_output}
use Rattle.dd_session.proofs.checks.check.Goals as goal

pub returns-in-Ok-clause-ended : goal.returns-in-Ok-clause-ended
returns-in-Ok-clause-ended g c =
    ended_check (change g.S.Source.left g.S.Source.faults c.args.source.now c.read_all.new.source) (change g.K.Sink.held g.K.Sink.faults c.args.sink.now c.check_bytes.new.sink)
    c.in-Ok.bytes.items c.deref.result.now _ c.in-Ok.ensures.bytes c.in-Ok.ensures.fits c.deref.ensures.value c.check_bytes.ensures.checked

pub returns-in-Ok-clause-taken : goal.returns-in-Ok-clause-taken
returns-in-Ok-clause-taken g c = took_output _ _ c.in-Ok.bytes.items c.in-Ok.ensures.bytes c.in-Ok.ensures.fits

pub returns-in-Err-TooLong-clause-ended : goal.returns-in-Err-TooLong-clause-ended
returns-in-Err-TooLong-clause-ended g c =
    let more : GivesMore (g.S.Source.left c.args.source.now) (g.S.Source.left c.read_all.new.source) most_checked = search rules in
    check_long (change g.S.Source.left g.S.Source.faults c.args.source.now c.read_all.new.source) (change g.K.Sink.held g.K.Sink.faults c.args.sink.now c.refuse.new.sink) _ more c.refuse.ensures.wrote
