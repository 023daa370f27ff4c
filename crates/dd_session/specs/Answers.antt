-- The answers of a run, whether some query has no definite answer, and the texts of answers.
use Rattle.std.specs.Prelude.{◌≡◌, ℕ, ◌+◌, List, [], ◌∷◌, ◌++◌, Bool, true, false, ◌||◌, ⊤}
use Rattle.std.specs.List.{Contains}
use Rattle.dd_certificate.specs.{declared.answer.Answer.Answer, Bounds.IsWritable}
use Rattle.dd_query.specs.declared.queries.Query.{Query}
use Rattle.dd_script.specs.Parts.{Parts}
use Rattle.dd_answer.specs.Right.{Right}
use Rattle.dd_respond.specs.Right.{is_unknown}

-- some answer is UNKNOWN
abbrev pub has_unknown : List Answer → Bool
has_unknown [] = false
has_unknown (a ∷ answers) = is_unknown a || has_unknown answers

-- the answers are right answers to the first queries, in order, and each is one that an output can hold
abbrev pub AllRight : Parts → List Query → List Answer → Type 0
AllRight s queries [] = ⊤
AllRight s [] (a ∷ answers) = ⊥
AllRight s (q ∷ queries) (a ∷ answers) = Right s q a × IsWritable a × AllRight s queries answers

-- some query of the script has no definite answer: UNKNOWN is a right answer to it
abbrev pub IsOpen : Parts → Type 0
IsOpen s = (q : Query) × Contains s.queries q × ((a : Answer) × Right s q a × (is_unknown a ≡ true))

-- the truth value says whether some query of the script has no definite answer
abbrev pub IsOpenAs : Bool → Parts → Type 0
IsOpenAs true s = IsOpen s
IsOpenAs false s = IsOpen s → ⊥

-- The texts of these answers, one after another. Their queries are numbered from `first` on. `written` gives what is written of each answer: the
-- whole text or the first line.
abbrev pub texts : (ℕ → Answer → List ℕ) → ℕ → List Answer → List ℕ
texts written first [] = []
texts written first (a ∷ answers) = written first a ++ texts written (first + 1) answers
