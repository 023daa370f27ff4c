use Rattle.std.proofs.Common.{◌≡◌, ◌+◌, ◌<◌, true, false, arith, rules}
use Rattle.dd_session.specs.{Checked.CheckFront, checking.Judged.Judged, checking.Judged.most_of}
use Rattle.dd_session.proofs.Judging.{accepted_next, lines_next, rejected_next, front_next, judged_as, below_most}
use Rattle.dd_session.proofs.checking.check_each.Goals as goal

pub returns-in_err-accepted-clause-cut : goal.returns-in_err-accepted-clause-cut
returns-in_err-accepted-clause-cut g c =
    let less : c.loop-done.done < most_of c.args.script.now c.args.answers.now =
    below_most c.args.script.now c.args.answers.now c.queries.result.now c.max-most.result c.loop-done.done c.queries.ensures.value c.max-most.ensures c.loop-done-test.true in
    let front : CheckFront (g.K.Sink.held c.args.sink.now) (g.K.Sink.held c.check_one.new.sink) c.args.script.now c.args.answers.now =
    front_next _ _ _ _ _ c.loop-done.done (c.loop-done.done + 1) (omega arith) less c.loop-done.invariant.accepted c.loop-done.invariant.wrote c.in_err-accepted.ensures.cut in
    search rules

pub returns-then-not-accepted-clause-wrote : goal.returns-then-not-accepted-clause-wrote
returns-then-not-accepted-clause-wrote g c =
    let less : c.loop-done.done < most_of c.args.script.now c.args.answers.now =
    below_most c.args.script.now c.args.answers.now c.queries.result.now c.max-most.result c.loop-done.done c.queries.ensures.value c.max-most.ensures c.loop-done-test.true in
    rejected_next _ _ _ _ _ c.loop-done.done (c.loop-done.done + 1) (omega arith) less c.loop-done.invariant.accepted c.loop-done.invariant.wrote
    (judged_as _ _ _ _ _ _ false c.if-not-accepted.true c.in_ok-accepted.ensures.wrote)

pub loop-done-preserved : goal.loop-done-preserved
loop-done-preserved g c =
    let one : Judged (g.K.Sink.held c.loop-done.sink) (g.K.Sink.held c.check_one.new.sink) c.args.script.now c.args.answers.now (c.loop-done.done + 1) true =
    judged_as _ _ _ _ _ _ true c.if-not-accepted.false c.in_ok-accepted.ensures.wrote in
    record {
      within = omega (arith, c.loop-done-test.true);
      accepted = accepted_next _ _ _ _ c.loop-done.done (c.loop-done.done + 1) (omega arith) c.loop-done.invariant.accepted one;
      wrote = lines_next _ _ _ _ _ c.loop-done.done (c.loop-done.done + 1) (omega arith) c.loop-done.invariant.wrote one;
      later = omega (arith, c.loop-done.invariant.later, c.check_one.ensures.faults.later);
    }
