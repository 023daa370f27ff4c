use Rattle.dd_session.specs.Sides.{change}
use Rattle.dd_session.proofs.CheckEnds.{check_decided}
use Rattle.dd_session.proofs.checks.check_diddy.Goals as goal

pub returns-clause-checked : goal.returns-clause-checked
returns-clause-checked g c = record {
  ended = c.check.ensures.ended;
  decided = check_decided c.one_output.ensures c.spelled_or_refused.ensures.never_both
      (change g.S.Source.left g.S.Source.faults c.args.source.now c.check.new.source) (change g.K.Sink.held g.K.Sink.faults c.args.sink.now c.check.new.sink)
      _ c.check.ensures.ended;
  taken = c.check.ensures.taken;
}
