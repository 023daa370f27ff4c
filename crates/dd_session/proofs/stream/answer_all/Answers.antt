use Rattle.std.proofs.Common.{◌+◌, List, arith, rules, subst}
use Rattle.dd_query.specs.declared.queries.Query.{Query}
use Rattle.dd_session.specs.{writing.Forms.text_in, Written.AnsweredFront}
use Rattle.dd_session.proofs.Engaging.{engaged_next, engaged_none}
use Rattle.dd_session.proofs.Streamed.{answered_next, answered_none, front_next}
use Rattle.dd_session.proofs.stream.answer_all.Goals as goal

pub loop-done-init : goal.loop-done-init
loop-done-init g c = record {
  wrote = answered_none (text_in c.args.form) _ c.args.script.now 1;
  later = omega arith;
  kept = c.kept_is_reflexive.ensures _;
  asked = engaged_none c.args.script.now _;
}

pub loop-done-preserved : goal.loop-done-preserved
loop-done-preserved g c = record {
  wrote = answered_next (text_in c.args.form) _ _ _ _ c.queries-queries.result.now _ c.loop-done.done (c.loop-done.done + 1) _ _
      (omega arith) c.index-queries-done.is (omega arith) c.loop-done.invariant.wrote c.in_ok-has_unknown.ensures.wrote;
  later = omega (arith, c.loop-done.invariant.later, c.answer_one.ensures.faults.later);
  kept = c.kept_is_transitive.ensures _ _ _ c.loop-done.invariant.kept c.answer_one.ensures.engines.kept;
  asked = engaged_next c.first_asked_earlier.ensures c.args.script.now c.queries-queries.result.now _ c.loop-done.done _ _ _
      (omega arith) c.index-queries-done.is c.loop-done.invariant.kept c.loop-done.invariant.asked c.in_ok-has_unknown.ensures.engines.asked;
}

pub returns-in_err-has_unknown-clause-cut : goal.returns-in_err-has_unknown-clause-cut
returns-in_err-has_unknown-clause-cut g c =
    let front : AnsweredFront (text_in c.args.form) (g.K.Sink.held c.args.sink.now) (g.K.Sink.held c.answer_one.new.sink) c.args.script.now c.args.script.now.queries 1 =
    subst (λ (queries : List Query). AnsweredFront (text_in c.args.form) (g.K.Sink.held c.args.sink.now) (g.K.Sink.held c.answer_one.new.sink) c.args.script.now queries 1)
    c.queries-queries.ensures.value
    (front_next (text_in c.args.form) _ _ _ _ c.queries-queries.result.now _ c.loop-done.done (c.loop-done.done + 1) _
    (omega arith) c.index-queries-done.is (omega arith) c.loop-done.invariant.wrote c.in_err-has_unknown.ensures.cut) in
    search rules
