-- Right answers to the queries of a script, as they are written. `written` takes the number of a query and an answer to it, and
-- gives what is written of the answer: the whole text or the first line. `old` and `new` are the bytes that the sink holds before
-- and after a call, if they are known. `has` says whether some answer is UNKNOWN.
use Rattle.std.specs.Prelude.{◌≡◌, ◌⊎◌, ℕ, List, [], ◌++◌, length, Bool}
use Rattle.std.specs.{declared.option.Option.Option, Io.KnownBytes.Appends}
use Rattle.dd_outside.specs.Bytes.{GainsFront}
use Rattle.dd_certificate.specs.{declared.answer.Answer.Answer, Text.answer_text}
use Rattle.dd_query.specs.declared.queries.Query.{Query}
use Rattle.dd_script.specs.Parts.{Parts}
use Rattle.dd_session.specs.{Answers.AllRight, Answers.has_unknown, Answers.texts, Output.header, Output.output_of}
use Rattle.dd_output.specs.Outputs.{end_line}

-- Right answers to these queries were written. The first of the queries has the number `first`.
pub record Answered (written : ℕ → Answer → List ℕ) (old new : Option (List ℕ)) (s : Parts) (queries : List Query) (first : ℕ) (has : Bool) : Type 0 where
  pub answers : List Answer
  pub right : AllRight s queries answers
  pub each : length answers ≡ length queries
  pub unknown_is : has_unknown answers ≡ has
  pub appends : Appends old new (texts written first answers)

-- A prefix of a text was written. For some k, the text has right answers to the first k of these queries, in order.
pub record AnsweredFront (written : ℕ → Answer → List ℕ) (old new : Option (List ℕ)) (s : Parts) (queries : List Query) (first : ℕ) : Type 0 where
  pub answers : List Answer
  pub right : AllRight s queries answers
  pub front : GainsFront old new (texts written first answers)

-- Right answers to all queries of a script were written, and then the end line.
pub record AnsweredToEnd (written : ℕ → Answer → List ℕ) (old new : Option (List ℕ)) (s : Parts) (has : Bool) : Type 0 where
  pub answers : List Answer
  pub right : AllRight s s.queries answers
  pub each : length answers ≡ length s.queries
  pub unknown_is : has_unknown answers ≡ has
  pub appends : Appends old new (texts written 1 answers ++ end_line)

-- A prefix of a text was written. The text has right answers to the first queries of the script. If it answers all queries, the
-- end line may follow.
pub record AnsweredShort (written : ℕ → Answer → List ℕ) (old new : Option (List ℕ)) (s : Parts) : Type 0 where
  pub answers : List Answer
  pub ending : List ℕ
  pub right : AllRight s s.queries answers
  pub ending_is : (ending ≡ []) ⊎ ((ending ≡ end_line) × (length answers ≡ length s.queries))
  pub front : GainsFront old new (texts written 1 answers ++ ending)

-- The whole output was written, with a right answer to each query.
pub record WholeOutput (old new : Option (List ℕ)) (bytes : List ℕ) (s : Parts) (has : Bool) : Type 0 where
  pub answers : List Answer
  pub right : AllRight s s.queries answers
  pub each : length answers ≡ length s.queries
  pub unknown_is : has_unknown answers ≡ has
  pub appends : Appends old new (output_of bytes answers)

-- A prefix of a text was written. The text has the header, and right answers to the first queries of the script. If it answers
-- all queries, the end line may follow.
pub record CutShort (old new : Option (List ℕ)) (bytes : List ℕ) (s : Parts) : Type 0 where
  pub answers : List Answer
  pub ending : List ℕ
  pub right : AllRight s s.queries answers
  pub ending_is : (ending ≡ []) ⊎ ((ending ≡ end_line) × (length answers ≡ length s.queries))
  pub front : GainsFront old new (header bytes ++ texts answer_text 1 answers ++ ending)
