-- Whether some query has no definite answer. This follows from the right answers that were found.
use Rattle.std.proofs.Common.{◌≡◌, ℕ, zero, suc, ◌<◌, List, [], ◌∷◌, length, get_or, Bool, true, false, refl, sym, ◌∙◌, subst, arith, inl, inr}
use Rattle.std.proofs.lemmas.Bool.{false≢true, or_cases}
use Rattle.std.specs.{List.Contains, declared.option.Option.Option}
use Rattle.dd_certificate.specs.declared.answer.Answer.{Answer}
use Rattle.dd_query.specs.declared.queries.Query.{Query}
use Rattle.dd_script.specs.{Parts.Parts, Scripts.Spells}
use Rattle.dd_answer.specs.Right.{Right}
use Rattle.dd_respond.specs.{Right.is_unknown, Laws.SayTheSame}
use Rattle.dd_session.specs.{Answers.AllRight, Answers.IsOpenAs, Answers.has_unknown, declared.status.Status.Status}
use Rattle.dd_session.specs.{Sides.Change, Sides.status_of, Written.WholeOutput, Runs.RanOver, Runs.WholeRun}
use Rattle.dd_values.specs.lemmas.Booleans.{or_none}

-- any two right answers to a query of the script have the same first line, and both are UNKNOWN or neither is
abbrev pub AnswersAgree : Parts → Type 0
AnswersAgree s = (q : Query) (a b : Answer) → Contains s.queries q → Right s q a → Right s q b → SayTheSame a b

-- UNKNOWN is a right answer to some query among these
abbrev IsOpenIn : Parts → List Query → Type 0
IsOpenIn s queries = (q : Query) × Contains queries q × ((a : Answer) × Right s q a × (is_unknown a ≡ true))

later : (s : Parts) (q : Query) (queries : List Query) → IsOpenIn s queries → IsOpenIn s (q ∷ queries)
later s q queries (p, (i, below, is), found) = (p, (suc i, omega (arith, below), is), found)

open_from : (s : Parts) (queries : List Query) (answers : List Answer) → AllRight s queries answers → has_unknown answers ≡ true → IsOpenIn s queries
open_from s queries [] right has = absurd (false≢true has)
open_from s [] (a ∷ answers) right has = absurd right
open_from s (q ∷ queries) (a ∷ answers) right has = elim (or_cases (is_unknown a) (has_unknown answers) has) [
  | inl here ↦ (q, (0, omega arith, refl), (a, right.0, here))
  | inr rest ↦ later s q queries (open_from s queries answers right.2 rest)
]

none_open : (s : Parts) (queries : List Query) (answers : List Answer) → AnswersAgree s → AllRight s queries answers → length answers ≡ length queries →
    has_unknown answers ≡ false → (q : Query) → Contains s.queries q → (i : ℕ) → i < length queries → get_or queries i q ≡ q → (b : Answer) → Right s q b → is_unknown b ≡ true → ⊥
none_open s [] answers agree right each none q there i below is b told unknown = omega (arith, below)
none_open s (p ∷ queries) [] agree right each none q there i below is b told unknown = absurd (omega (arith, each))
none_open s (p ∷ queries) (a ∷ answers) agree right each none q there zero below is b told unknown =
    let same = (agree q a b there (subst (λ r. Right s r a) is right.0) told).unknown in
    false≢true (sym (or_none (is_unknown a) (has_unknown answers) none).0 ∙ (same ∙ unknown))
none_open s (p ∷ queries) (a ∷ answers) agree right each none q there (suc i) below is b told unknown =
    none_open s queries answers agree right.2 (omega (arith, each)) (or_none (is_unknown a) (has_unknown answers) none).1 q there i (omega (arith, below)) is b told unknown

pub open_as : (s : Parts) (answers : List Answer) (has : Bool) → AnswersAgree s → AllRight s s.queries answers → length answers ≡ length s.queries →
    has_unknown answers ≡ has → IsOpenAs has s
open_as s answers true agree right each is = open_from s s.queries answers right is
open_as s answers false agree right each is = λ (q, (i, below, at), (b, told, unknown)). none_open s s.queries answers agree right each is q (i, below, at) i below at b told unknown

-- if the whole output of a script was written, `WholeRun` holds
whole_run : (old new : Option (List ℕ)) (bytes : List ℕ) (s : Parts) (has : Bool) → AnswersAgree s → Spells bytes s → WholeOutput old new bytes s has →
    WholeRun old new bytes has
whole_run old new bytes s has agree spelled output = record {
  script = s;
  spelled = spelled;
  output = output;
  is_open = open_as s output.answers has agree output.right output.each output.unknown_is;
}

-- so `RanOver` holds with the status that `status_of` gives
pub whole_over : {K : Type 0} (sink : Change K) (bytes : List ℕ) (s : Parts) (has : Bool) (status : Status) → AnswersAgree s → Spells bytes s →
    WholeOutput sink.bytes_old sink.bytes_new bytes s has → status ≡ status_of has → RanOver sink bytes status
whole_over sink bytes s true status agree spelled output is =
    subst (RanOver sink bytes) (sym is) (whole_run sink.bytes_old sink.bytes_new bytes s true agree spelled output)
whole_over sink bytes s false status agree spelled output is =
    subst (RanOver sink bytes) (sym is) (whole_run sink.bytes_old sink.bytes_new bytes s false agree spelled output)
