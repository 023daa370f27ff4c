use Rattle.std.proofs.Common.{◌≡◌, List, ℕ, rules, subst}
use Rattle.dd_outside.specs.Bytes.{GainsFront}
use Rattle.dd_session.specs.checking.Judged.{JudgedFront, part, verdict_line}
use Rattle.dd_session.proofs.Judging.{on_err}
use Rattle.dd_session.proofs.checking.check_one.Goals as goal

pub returns-in_err-write_whole-clause-cut : goal.returns-in_err-write_whole-clause-cut
returns-in_err-write_whole-clause-cut g c =
    let is : c.as_bytes.result.now ≡ verdict_line c.args.number c.in_ok-accepted.accepted = search rules in
    let front : JudgedFront (g.K.Sink.held c.args.sink.now) (g.K.Sink.held c.write_whole.new.sink) c.args.script.now c.args.answers.now c.args.number =
    part c.in_ok-accepted.accepted c.in_ok-accepted.ensures
    (subst (λ (l : List ℕ). GainsFront (g.K.Sink.held c.args.sink.now) (g.K.Sink.held c.write_whole.new.sink) l) is c.in_err-write_whole.ensures.front) in
    on_err _ _ front
