use Rattle.std.proofs.Common.{rules}
use Rattle.dd_session.specs.{Checked.CheckFront, checking.Judged.AcceptedEach}
use Rattle.dd_session.proofs.Judging.{each_accepted, each_rejected, finished_all, finished_front, unfinished_front}
use Rattle.dd_session.proofs.checking.check_all.Goals as goal

pub returns-then-not-are_accepted-clause-wrote : goal.returns-then-not-are_accepted-clause-wrote
returns-then-not-are_accepted-clause-wrote g c = each_rejected _ _ _ _ c.in_ok-are_accepted.are_accepted c.if-not-are_accepted.true c.in_ok-are_accepted.ensures.wrote

pub returns-in_err-line-clause-cut : goal.returns-in_err-line-clause-cut
returns-in_err-line-clause-cut g c =
    let each : AcceptedEach (g.K.Sink.held c.args.sink.now) (g.K.Sink.held c.check_each.new.sink) c.args.script.now c.args.answers.now =
    each_accepted _ _ _ _ c.in_ok-are_accepted.are_accepted c.if-not-are_accepted.false c.in_ok-are_accepted.ensures.wrote in
    let cut : CheckFront (g.K.Sink.held c.args.sink.now) (g.K.Sink.held c.check_each.new.sink) c.args.script.now c.args.answers.now =
    unfinished_front _ _ _ _ each in
    search rules

pub returns-in_err-write_whole-clause-cut : goal.returns-in_err-write_whole-clause-cut
returns-in_err-write_whole-clause-cut g c =
    let each : AcceptedEach (g.K.Sink.held c.args.sink.now) (g.K.Sink.held c.check_each.new.sink) c.args.script.now c.args.answers.now =
    each_accepted _ _ _ _ c.in_ok-are_accepted.are_accepted c.if-not-are_accepted.false c.in_ok-are_accepted.ensures.wrote in
    let cut : CheckFront (g.K.Sink.held c.args.sink.now) (g.K.Sink.held c.write_whole.new.sink) c.args.script.now c.args.answers.now =
    finished_front _ _ _ _ _ c.as_bytes.result.now c.certified.ensures each (search rules) c.in_err-write_whole.ensures.front in
    search rules

pub returns-clause-wrote : goal.returns-clause-wrote
returns-clause-wrote g c =
    let each : AcceptedEach (g.K.Sink.held c.args.sink.now) (g.K.Sink.held c.check_each.new.sink) c.args.script.now c.args.answers.now =
    each_accepted _ _ _ _ c.in_ok-are_accepted.are_accepted c.if-not-are_accepted.false c.in_ok-are_accepted.ensures.wrote in
    finished_all _ _ _ _ _ c.as_bytes.result.now c.certified.ensures each (search rules) c.in_ok-write_whole.ensures.whole
