-- The reader of a whole output. Where it stops, a text completes what it has read.
use Rattle.std.specs.Prelude.{ℕ, suc, List, [], ◌∷◌, ◌++◌, length, cond, ◌==◌, nat_lt, Result, Ok, Err, codes, replicate}
use Rattle.std.specs.Fmt.{decimal}
use Rattle.dd_values.specs.Bounds.{most_script, most_commands}
use Rattle.dd_certificate.specs.declared.answer.Answer.{Answer}
use Rattle.dd_output.specs.{declared.output.Output.Output, Outputs.end_line}
use Rattle.dd_output.specs.reading.Stops.{Read, ◌>>=◌, Stop, stop, before, word_at, number_at, bytes_at, then_at, after_at, map_at, Entry, item, entries_at, choice_at}
use Rattle.dd_output.specs.reading.{Lists.items_of, Lists.ended, Grammar.answer_form}

abbrev pub answer_entry_of : Answer → Entry Answer (Unit {0})
answer_entry_of a = item a

-- the text before the answer with index k, from 0
abbrev pub query_text : ℕ → List ℕ
query_text k = codes "query " ++ (decimal (suc k) ++ codes " ")

-- The answer with index k, or the end. Indices start at 0. Here k is less than the greatest number of answers that an output may have. 113 is the q
-- of `query`.
unfoldable pub open_entry : ℕ → List ℕ → Read (Entry Answer (Unit {0}))
open_entry k = choice_at 113
    (map_at answer_entry_of (after_at (query_text k) (codes "IN\n" ++ end_line) (λ bytes. before end_line (answer_form.read bytes))))
    (map_at ended (word_at end_line))

-- the same for any index: after as many answers as an output may have, only the end can follow
unfoldable pub answer_entry : ℕ → List ℕ → Read (Entry Answer (Unit {0}))
answer_entry k bytes = cond (nat_lt k most_commands) (open_entry k bytes) (map_at ended (word_at end_line) bytes)

abbrev pub answers_at : List ℕ → Read (List Answer)
answers_at = map_at items_of (entries_at answer_entry 0)

abbrev pub script_of : (ℕ × ℕ) × (List ℕ × Unit {0}) → List ℕ
script_of x = x.1.0

-- the length of the script, a line feed, the script, and a line feed
unfoldable pub script_at : List ℕ → Read (List ℕ)
script_at = map_at script_of (then_at (number_at 0 most_script 10 10 (λ n. replicate n 0 ++ 10 ∷ end_line))
    (λ n. then_at (λ bytes. before (10 ∷ end_line) (bytes_at n.0 bytes)) (λ _ bytes. before end_line (word_at (10 ∷ []) bytes))))

abbrev pub output_of : List ℕ × List Answer → Output
output_of x = record { script = x.0; answers = x.1 }

abbrev pub head_text : List ℕ
head_text = codes "diddy 1\nscript "

-- an output; bytes may be left after it
unfoldable pub output_at : List ℕ → Read Output
output_at = map_at output_of (after_at head_text (48 ∷ 10 ∷ 10 ∷ end_line) (then_at script_at (λ _. answers_at)))

-- an output; no bytes may be left after it
unfoldable pub all_at : List ℕ → Result Output Stop
all_at bytes = output_at bytes >>= λ x. cond (length x.1 == 0) (Ok x.0) (Err (stop x.1 []))

abbrev pub missing_of : Result Output Stop → List ℕ
missing_of (Ok o) = []
missing_of (Err s) = s.missing

-- appended to what can be read of these bytes, this text makes the text of an output
abbrev pub completion : List ℕ → List ℕ
completion bytes = missing_of (all_at bytes)
