use Rattle.std.proofs.Common.{rules}
use Rattle.dd_outside.specs.Bytes.{GainsFront}
use Rattle.dd_session.specs.writing.Forms.{text_in}
use Rattle.dd_session.proofs.Streamed.{front_of_nothing}
use Rattle.dd_session.proofs.stream.write_one.Goals as goal

pub returns-in_err-text-clause-cut : goal.returns-in_err-text-clause-cut
returns-in_err-text-clause-cut g c =
    let front : GainsFront (g.K.Sink.held c.args.sink.now) (g.K.Sink.held c.args.sink.now) (text_in c.args.form c.args.number c.args.answer.now) = front_of_nothing _ _ in
    search rules
