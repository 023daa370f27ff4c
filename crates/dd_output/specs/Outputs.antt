-- Whole outputs: the script, the answers to its queries in order, and the end.
use Rattle.std.specs.Prelude.{◌≡◌, ℕ, suc, ◌≤◌, List, [], ◌∷◌, ◌++◌, All, length, codes}
use Rattle.std.specs.Fmt.{decimal}
use Rattle.dd_values.specs.Bounds.{most_script, most_commands}
use Rattle.dd_certificate.specs.{declared.answer.Answer.Answer, Text.line_feed, Text.answer_text, Bounds.IsWritable}
use Rattle.dd_output.specs.declared.output.Output.{Output}

-- the text before the first answer: the line `diddy 1`, a line with the length of the script, and the script with a line feed after it
abbrev pub header : List ℕ → List ℕ
header script = (codes "diddy 1\nscript " ++ (decimal (length script) ++ line_feed)) ++ (script ++ line_feed)

-- the texts of answers; the first one answers the query with this number
abbrev pub answers_text : ℕ → List Answer → List ℕ
answers_text first [] = []
answers_text first (a ∷ answers) = answer_text first a ++ answers_text (suc first) answers

abbrev pub end_line : List ℕ
end_line = codes "end\n"

abbrev pub output_text : Output → List ℕ
output_text o = header o.script ++ (answers_text 1 o.answers ++ end_line)

-- the length of the script, the number of answers, and each answer are within bounds
abbrev pub IsWritableOutput : Output → Type 0
IsWritableOutput o = (length o.script ≤ most_script) × (length o.answers ≤ most_commands) × All IsWritable o.answers

-- the bytes are the text of an output within bounds
abbrev pub IsWellFormed : List ℕ → Type 0
IsWellFormed bytes = (o : Output) × IsWritableOutput o × (bytes ≡ output_text o)
