use Rattle.std.proofs.Common.{rules}
use Rattle.dd_session.specs.{writing.Forms.text_in, Written.AnsweredShort}
use Rattle.dd_session.proofs.Streamed.{answered_to_end, short_in_answers, short_at_end}
use Rattle.dd_session.proofs.stream.answer_to_end.Goals as goal

pub returns-in_err-has_unknown-clause-cut : goal.returns-in_err-has_unknown-clause-cut
returns-in_err-has_unknown-clause-cut g c =
    let short : AnsweredShort (text_in c.args.form) (g.K.Sink.held c.args.sink.now) (g.K.Sink.held c.answer_all.new.sink) c.args.script.now =
    short_in_answers (text_in c.args.form) _ _ _ c.in_err-has_unknown.ensures.cut in
    search rules

pub returns-in_err-write_whole-clause-cut : goal.returns-in_err-write_whole-clause-cut
returns-in_err-write_whole-clause-cut g c =
    let short : AnsweredShort (text_in c.args.form) (g.K.Sink.held c.args.sink.now) (g.K.Sink.held c.write_whole.new.sink) c.args.script.now =
    short_at_end (text_in c.args.form) _ _ _ _ _ c.in_ok-has_unknown.ensures.wrote c.in_err-write_whole.ensures.front in
    search rules

pub returns-clause-whole : goal.returns-clause-whole
returns-clause-whole g c =
    answered_to_end (text_in c.args.form) _ _ _ _ _ c.in_ok-has_unknown.ensures.wrote c.in_ok-write_whole.ensures.whole
