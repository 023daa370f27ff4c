-- What the run of a sample wrote, for each way in which it may end. If a comment only says what happened, its lemma is about that case.
use Rattle.std.proofs.Common.{◌≡◌, ◌≢◌, ℕ, List, Bool, true, false, refl, sym, ◌∙◌, subst, inl, inr}
use Rattle.std.specs.Prelude.{string_bytes}
use Rattle.dd_certificate.specs.Text.{answer_line}
use Rattle.dd_script.specs.{Parts.Parts, declared.fault.ScriptKind.ScriptKind}
use Rattle.dd_script.specs.Scripts.{Spells, RefusalKind, syntax, unknown, twice, dimension, size, RefusedAs, IsRefusedAs}
use Rattle.dd_sample.specs.Sample.{sample_text}
use Rattle.dd_session.specs.{declared.status.Status.Status, declared.status.Status.TheVariants.BadWords, Sides.Change, Sides.status_of}
use Rattle.dd_session.specs.{Written.AnsweredToEnd, Samples.is_memory, Samples.LinesOf, Samples.SampleEnded}
use Rattle.dd_session.proofs.Open.{AnswersAgree, open_as}
use Rattle.dd_script.specs.declared.fault.ScriptKind.TheVariants as refused

-- the first lines of all answers and the end line were written
pub lines_over : {K : Type 0} (sink : Change K) (s : Parts) (has : Bool) (status : Status) → AnswersAgree s
    → AnsweredToEnd answer_line sink.bytes_old sink.bytes_new s has → status ≡ status_of has → LinesOf sink s status
lines_over sink s true status agree lines is =
    subst (LinesOf sink s) (sym is) (lines, open_as s lines.answers true agree lines.right lines.each lines.unknown_is)
lines_over sink s false status agree lines is =
    subst (LinesOf sink s) (sym is) (lines, open_as s lines.answers false agree lines.right lines.each lines.unknown_is)

-- the sample was made
pub sample_over : {K : Type 0} (sink : Change K) (number : ℕ) (s : Parts) (status : Status) → Spells (sample_text number) s
    → LinesOf sink s status → SampleEnded sink number status
sample_over sink number s status spelled lines = inl record { script = s; spelled = spelled; lines = lines }

-- no run of a sample ends with `BadWords`
pub never_sampled : {K : Type 0} (sink : Change K) (number : ℕ) (status : Status) → SampleEnded sink number status → status ≢ BadWords
never_sampled sink number status (inl ran) is = let none : ⊥ = subst (LinesOf sink ran.script) is ran.lines in none
never_sampled sink number status (inr kept) is = absurd (cc (sym kept.1 ∙ is))

-- bytes that spell a script are not refused
abbrev pub NeverBoth : Type 0
NeverBoth = (bytes : List ℕ) (s : Parts) (n : ℕ) (k : RefusalKind) → Spells bytes s → RefusedAs bytes n k → ⊥

-- so if bytes that spell a script are not parsed, memory ran out
pub only_memory : NeverBoth → (bytes : List ℕ) (s : Parts) → Spells bytes s → (n : ℕ) (kind : ScriptKind) → IsRefusedAs bytes n kind → is_memory kind ≡ true
only_memory never bytes s spelled n refused.Syntax is = absurd (never bytes s n syntax spelled is)
only_memory never bytes s spelled n (refused.Unknown text) is = absurd (never bytes s n (unknown (string_bytes text)) spelled is)
only_memory never bytes s spelled n (refused.Twice text) is = absurd (never bytes s n (twice (string_bytes text)) spelled is)
only_memory never bytes s spelled n refused.Dimension is = absurd (never bytes s n dimension spelled is)
only_memory never bytes s spelled n (refused.Size l) is = absurd (never bytes s n (size l) spelled is)
only_memory never bytes s spelled n refused.Memory is = refl
