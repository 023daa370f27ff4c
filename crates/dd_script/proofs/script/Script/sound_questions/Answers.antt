use Rattle.dd_script.proofs.Asking.{questions_sound}
use Rattle.dd_script.proofs.script.Script.sound_questions.Goals as goal

pub returns : goal.returns
returns c = questions_sound c.args.self.now c.limits-limits.ensures.kept c.sound_questions.ensures
