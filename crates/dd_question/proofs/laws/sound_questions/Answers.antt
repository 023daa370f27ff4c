use Rattle.dd_question.proofs.SoundLaws.{sound}
use Rattle.dd_question.proofs.laws.sound_questions.Goals as goal

pub returns : goal.returns
returns c = sound
