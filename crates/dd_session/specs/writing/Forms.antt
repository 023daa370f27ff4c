-- How much of an answer is written.
use Rattle.std.specs.Prelude.{ℕ, List}
use Rattle.dd_certificate.specs.{declared.answer.Answer.Answer, Text.answer_text, Text.answer_line}
use Rattle.dd_session.specs.declared.stream.Form.{Form}
use Rattle.dd_session.specs.declared.stream.Form.TheVariants as form

-- what is written of the answer to the query with this number: all its lines, or the first
abbrev pub text_in : Form → ℕ → Answer → List ℕ
text_in form.Whole = answer_text
text_in form.Line = answer_line
