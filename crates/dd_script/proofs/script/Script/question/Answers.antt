use Rattle.std.proofs.Common.{◌≡◌, Some, refl, subst}
use Rattle.dd_question.specs.Questions.{asked_of}
use Rattle.dd_script.specs.{Questions.asked, Questions.pairs_for, Parts.Parts, Parts.parts}
use Rattle.dd_script.proofs.script.Script.question.Goals as goal

pub question_of-question-requires-clause-pairs : goal.question_of-question-requires-clause-pairs
question_of-question-requires-clause-pairs c =
    let s : Parts = parts c.get-contents.result.now.known c.get-contents.result.now.made in
    let same : c.args.self.now ≡ s = rw (← c.self.view_is, ← c.get-contents.ensures) refl in
    subst (λ (t : Parts). c.args.pairs.now ≡ pairs_for t c.args.query.now) same c.requires.pairs

pub known-requires-clause-sound : goal.known-requires-clause-sound
known-requires-clause-sound c =
    let is : asked c.args.self.now c.args.query.now ≡ Some (asked_of c.question_of-question.result) = rw (← c.self.view_is, ← c.get-contents.ensures) c.question_of-question.ensures in
    rw (c.limits.ensures.value) (c.sound_questions.ensures _ _ c.requires.query is).sound

pub returns-clause-asks : goal.returns-clause-asks
returns-clause-asks c =
    let is : asked c.args.self.now c.args.query.now ≡ Some (asked_of c.question_of-question.result) = rw (← c.self.view_is, ← c.get-contents.ensures) c.question_of-question.ensures in
    rw (c.known.ensures) (record { is = is; sound = c.sound_questions.ensures _ _ c.requires.query is })
