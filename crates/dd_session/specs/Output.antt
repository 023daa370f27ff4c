-- The whole output of a run, and the lines for inputs that are refused.
use Rattle.std.specs.{Prelude.◌≡◌, Prelude.ℕ, Prelude.List, Prelude.◌++◌, Prelude.codes, Prelude.string_bytes, Fmt.decimal}
use Rattle.dd_faults.specs.declared.fault.Limit.{Limit}
use Rattle.dd_certificate.specs.{declared.answer.Answer.Answer, Text.answer_text}
use Rattle.dd_output.specs.Outputs.{header as lines_before, end_line}
use Rattle.dd_script.specs.declared.fault.ScriptKind.{ScriptKind}
use Rattle.dd_script.specs.Scripts.{RefusalKind, syntax, unknown, twice, dimension, size}
use Rattle.dd_session.specs.Answers.{texts}
use Rattle.dd_faults.specs.declared.fault.Limit.TheVariants as limit
use Rattle.dd_script.specs.declared.fault.ScriptKind.TheVariants as refused

-- The header of an output: all lines before the first answer. Proofs about runs need not unfold it.
unfoldable pub header : List ℕ → List ℕ
header bytes = lines_before bytes

-- The whole output for a script that these bytes spell, with these answers to its queries, in order.
abbrev pub output_of : List ℕ → List Answer → List ℕ
output_of bytes answers = header bytes ++ texts answer_text 1 answers ++ end_line

-- ---- the lines for inputs that are refused

-- the line for an input that is too long
abbrev pub long_line : List ℕ
long_line = codes "refused long\n"

abbrev pub limit_text : Limit → List ℕ
limit_text limit.Commands = codes "commands"
limit_text limit.Word = codes "word"
limit_text limit.Number = codes "number"
limit_text limit.Nodes = codes "nodes"
limit_text limit.Alphabet = codes "alphabet"
limit_text limit.Edges = codes "edges"
limit_text limit.Offset = codes "offset"
limit_text limit.Weight = codes "weight"
limit_text limit.Limits = codes "limits"
limit_text limit.Moves = codes "moves"
limit_text limit.Radius = codes "radius"
limit_text limit.Balls = codes "balls"
limit_text limit.Instances = codes "instances"
limit_text limit.Reach = codes "reach"
limit_text limit.Depth = codes "depth"
limit_text limit.Periods = codes "periods"
limit_text limit.Vectors = codes "vectors"
limit_text limit.Patterns = codes "patterns"
limit_text limit.States = codes "states"
limit_text limit.Clauses = codes "clauses"

-- what is wrong with a command
abbrev pub refusal_kind_text : RefusalKind → List ℕ
refusal_kind_text syntax = codes "syntax"
refusal_kind_text (unknown name) = codes "unknown " ++ name
refusal_kind_text (twice name) = codes "twice " ++ name
refusal_kind_text dimension = codes "dimension"
refusal_kind_text (size l) = codes "size " ++ limit_text l

-- the line for bytes that aren't a script: `words`, the number of the command, and what is wrong with it
abbrev pub refused_line : List ℕ → ℕ → RefusalKind → List ℕ
refused_line words command k = words ++ (codes " " ++ (decimal command ++ (codes " " ++ (refusal_kind_text k ++ codes "\n"))))

-- the words with which a run refuses its input
abbrev pub refused_words : List ℕ
refused_words = codes "refused"

-- `line` is the line with these words (see `refused_line`) for a fault of this kind in the command with this number; if the kind is that memory ran
-- out, there is no line
abbrev pub IsLineOf : List ℕ → ℕ → ScriptKind → List ℕ → Type 0
IsLineOf words command refused.Syntax line = line ≡ refused_line words command syntax
IsLineOf words command (refused.Unknown name) line = line ≡ refused_line words command (unknown (string_bytes name))
IsLineOf words command (refused.Twice name) line = line ≡ refused_line words command (twice (string_bytes name))
IsLineOf words command refused.Dimension line = line ≡ refused_line words command dimension
IsLineOf words command (refused.Size l) line = line ≡ refused_line words command (size l)
IsLineOf words command refused.Memory line = ⊥
