-- The output of a run, and the checks that aren't cut short.
use Rattle.std.specs.Prelude.{◌≡◌, ◌≤◌, ℕ, List, length, Bool}
use Rattle.dd_values.specs.Bounds.{most_script}
use Rattle.dd_certificate.specs.declared.answer.Answer.{Answer}
use Rattle.dd_script.specs.{Parts.Parts, Scripts.Spells}
use Rattle.dd_session.specs.declared.status.Status.{Status}
use Rattle.dd_session.specs.declared.status.Status.TheVariants.{Definite, SomeUnknown, Refused, ReadFault, WriteFault, Memory, BadWords, Rejected}
use Rattle.dd_session.specs.{Answers.AllRight, Answers.has_unknown, Output.output_of}

-- The bytes spell this script, and the text is the whole output of a run over them, with a right answer to each query. `has` says whether
-- some answer is UNKNOWN.
pub record IsRunOutput (bytes : List ℕ) (s : Parts) (has : Bool) (text : List ℕ) : Type 0 where
  pub spelled : Spells bytes s
  pub short : length bytes ≤ most_script
  pub answers : List Answer
  pub right : AllRight s s.queries answers
  pub each : length answers ≡ length s.queries
  pub unknown_is : has_unknown answers ≡ has
  pub text_is : text ≡ output_of bytes answers

-- The status is that of a check that wasn't cut short: nothing failed, and memory sufficed.
abbrev pub IsJudgement : Status → Type 0
IsJudgement Definite = Unit {0}
IsJudgement SomeUnknown = Unit {0}
IsJudgement Refused = Unit {0}
IsJudgement ReadFault = ⊥
IsJudgement WriteFault = ⊥
IsJudgement Memory = ⊥
IsJudgement BadWords = ⊥
IsJudgement Rejected = Unit {0}
