use Rattle.std.proofs.{Common.refl, Common.sym, Common.◌∙◌, Common.arith, lemmas.Bool.false≢true}
use Rattle.dd_session.specs.Sides.{change}
use Rattle.dd_session.proofs.Decided.{decided}
use Rattle.dd_session.proofs.ByWord.{run_session, check_session, sample_session, idle_session, same_counts, run_consults, check_consults, sample_consults, idle_consults}
use Rattle.dd_session.proofs.session.run_diddy.Goals as goal

-- ---- the word `run`

pub returns-then-is_only-clause-session : goal.returns-then-is_only-clause-session
returns-then-is_only-clause-session g c =
    run_session _ (change g.S.Source.left g.S.Source.faults c.args.source.now c.run.new.source) (change g.K.Sink.held g.K.Sink.faults c.args.sink.now c.run.new.sink) _
    (c.is_only.ensures.0 c.if-is_only.true)
    (record {
      ended = c.run.ensures.ended;
      decided = decided c.spelled_or_refused.ensures.never_both
          (change g.S.Source.left g.S.Source.faults c.args.source.now c.run.new.source) (change g.K.Sink.held g.K.Sink.faults c.args.sink.now c.run.new.sink)
          _ c.run.ensures.ended;
      taken = c.run.ensures.taken;
    })
    c.run.ensures.faults

pub returns-then-is_only-clause-engines : goal.returns-then-is_only-clause-engines
returns-then-is_only-clause-engines g c =
    run_consults _ (change g.S.Source.left g.S.Source.faults c.args.source.now c.run.new.source) (change g.K.Sink.held g.K.Sink.faults c.args.sink.now c.run.new.sink) _ _
    (c.is_only.ensures.0 c.if-is_only.true)
    c.run.ensures.kept c.run.ensures.late c.run.ensures.asked

-- ---- the word `check`

pub returns-then-is_only-2-clause-session : goal.returns-then-is_only-2-clause-session
returns-then-is_only-2-clause-session g c =
    check_session _ (change g.S.Source.left g.S.Source.faults c.args.source.now c.check_diddy.new.source)
    (change g.K.Sink.held g.K.Sink.faults c.args.sink.now c.check_diddy.new.sink) _
    (c.is_only-2.ensures.0 c.if-is_only-2.true) c.check_diddy.ensures.checked c.check_diddy.ensures.faults

pub returns-then-is_only-2-clause-engines : goal.returns-then-is_only-2-clause-engines
returns-then-is_only-2-clause-engines g c =
    check_consults _ (change g.S.Source.left g.S.Source.faults c.args.source.now c.check_diddy.new.source)
    (change g.K.Sink.held g.K.Sink.faults c.args.sink.now c.check_diddy.new.sink) _ _
    (c.is_only-2.ensures.0 c.if-is_only-2.true) (record { kept = c.kept_is_reflexive.ensures _; unanswered = λ _. refl }) refl

-- ---- the word `sample`

pub run_sample-requires : goal.run_sample-requires
run_sample-requires g c = c.in-Some.ensures.0

pub returns-in-Some-clause-session : goal.returns-in-Some-clause-session
returns-in-Some-clause-session g c =
    sample_session _ (change g.S.Source.left g.S.Source.faults c.args.source.now c.args.source.now)
    (change g.K.Sink.held g.K.Sink.faults c.args.sink.now c.run_sample.new.sink) c.in-Some.number _ c.in-Some.ensures
    (record { ended = c.run_sample.ensures.ended; source_kept = refl })
    (record { source_faults = omega arith; sink_faults = c.run_sample.ensures.later })

pub returns-in-Some-clause-engines : goal.returns-in-Some-clause-engines
returns-in-Some-clause-engines g c =
    sample_consults _ (change g.S.Source.left g.S.Source.faults c.args.source.now c.args.source.now)
    (change g.K.Sink.held g.K.Sink.faults c.args.sink.now c.run_sample.new.sink) _ c.in-Some.number _ c.in-Some.ensures
    c.run_sample.ensures.kept c.run_sample.ensures.asked

-- ---- other words

pub returns-in-None-clause-session : goal.returns-in-None-clause-session
returns-in-None-clause-session g c =
    idle_session _ (change g.S.Source.left g.S.Source.faults c.args.source.now c.args.source.now) (change g.K.Sink.held g.K.Sink.faults c.args.sink.now c.args.sink.now) (
      λ is. false≢true (sym c.if-is_only.false ∙ c.is_only.ensures.1 is),
      λ is. false≢true (sym c.if-is_only-2.false ∙ c.is_only-2.ensures.1 is),
      c.in-None.ensures,
    )
    refl refl (same_counts g.S.Source.left g.S.Source.faults g.K.Sink.held g.K.Sink.faults c.args.source.now c.args.sink.now)

pub returns-in-None-clause-engines : goal.returns-in-None-clause-engines
returns-in-None-clause-engines g c =
    idle_consults _ (change g.S.Source.left g.S.Source.faults c.args.source.now c.args.source.now) (change g.K.Sink.held g.K.Sink.faults c.args.sink.now c.args.sink.now) _ _ (
      λ is. false≢true (sym c.if-is_only.false ∙ c.is_only.ensures.1 is),
      λ is. false≢true (sym c.if-is_only-2.false ∙ c.is_only-2.ensures.1 is),
      c.in-None.ensures,
    )
    (record { kept = c.kept_is_reflexive.ensures _; unanswered = λ _. refl })
