-- A check accepts the whole output of a run. If the output isn't too long and the check isn't cut short, it ends with the status of the run. This is so
-- since the answers are right and hence certificates, a text is the text of at most one output, and bytes spell at most one script.
use Rattle.std.proofs.Common.{◌≡◌, ℕ, zero, suc, ◌+◌, ◌-◌, ◌<◌, ◌≤◌, List, [], ◌∷◌, ◌++◌, length, max, Bool, true, false, Some, None, refl, ap, sym, subst, ◌∙◌, add-one, append_assoc, arith}
use Rattle.std.proofs.lemmas.List.Elements.{All-nil, All-cons}
use Rattle.std.specs.{Prelude.Option, Prelude.IsSomeAnd, List.All, List.slice_get}
use Rattle.dd_certificate.specs.{declared.answer.Answer.Answer, Text.answer_text, Bounds.IsWritable}
use Rattle.dd_output.specs.declared.output.Output.{Output}
use Rattle.dd_output.specs.Outputs.{header as whole_header, answers_text, output_text, IsWritableOutput, end_line}
use Rattle.dd_query.specs.declared.queries.Query.{Query}
use Rattle.dd_script.specs.{Parts.Parts, Scripts.Spells, Questions.asked}
use Rattle.dd_question.specs.Questions.{Asked}
use Rattle.dd_values.specs.declared.limits.Limits.{Limits}
use Rattle.dd_answer.specs.Right.{Right}
use Rattle.dd_respond.specs.Right.{IsRightTo}
use Rattle.dd_verify.specs.Certificates.{IsCertificateOf}
use Rattle.dd_checker.specs.{Certificates.IsCertificateFor, Certificates.IsCertificate, Claims.Claim}
use Rattle.dd_session.specs.declared.status.Status.{Status}
use Rattle.dd_session.specs.declared.status.Status.TheVariants.{Definite, SomeUnknown, Refused, ReadFault, WriteFault, Memory, BadWords, Rejected}
use Rattle.dd_session.specs.{Answers.AllRight, Answers.has_unknown, Answers.texts, Output.header, Output.output_of, Sides.status_of}
use Rattle.dd_session.specs.Checks.{most_checked, IsAcceptedAt, IsTrueAt, AcceptedTo, AllAccepted, FirstRejected, IsAllAccepted}
use Rattle.dd_session.specs.{Checked.CheckDecides, Agreement.IsRunOutput, Agreement.IsJudgement}
use Rattle.dd_session.proofs.{Decided.OneScript, CheckEnds.OneOutput, Numbered.few_queries}

abbrev AreCertificates : Type 0
AreCertificates = (l : Limits) (k : Asked) (a : Answer) → IsRightTo l k a → IsCertificateOf l k a

abbrev ClaimsAreTrue : Parts → Type 0
ClaimsAreTrue s = (number : ℕ) (a : Answer) → IsCertificate s number a → Claim s number a

-- ---- the text

texts_same : (first : ℕ) (answers : List Answer) → texts answer_text first answers ≡ answers_text first answers
texts_same first [] = refl
texts_same first (a ∷ answers) =
    ap (λ (t : List ℕ). answer_text first a ++ t) (ap (λ (n : ℕ). texts answer_text n answers) (add-one first) ∙ texts_same (suc first) answers)

abbrev output : List ℕ → List Answer → Output
output bytes answers = record { script = bytes; answers = answers }

header_same : (bytes : List ℕ) → header bytes ≡ whole_header bytes
unfolding header
header_same bytes = refl

text_same : (bytes : List ℕ) (answers : List Answer) → output_of bytes answers ≡ output_text (output bytes answers)
text_same bytes answers =
    append_assoc (header bytes) (texts answer_text 1 answers) end_line
    ∙ (ap (λ (t : List ℕ). header bytes ++ (t ++ end_line)) (texts_same 1 answers)
    ∙ ap (λ (h : List ℕ). h ++ (answers_text 1 answers ++ end_line)) (header_same bytes))

-- ---- the answers

all_writable : (s : Parts) (queries : List Query) (answers : List Answer) → AllRight s queries answers → All IsWritable answers
all_writable s queries [] right = All-nil IsWritable
all_writable s [] (a ∷ answers) right = absurd right
all_writable s (q ∷ queries) (a ∷ answers) right = All-cons IsWritable a answers right.1 (all_writable s queries answers right.2)

some_then : {X : Type 0} (o : Option X) (P Q : X → Type 0) → ((x : X) → P x → Q x) → IsSomeAnd o P → IsSomeAnd o Q
some_then (Some x) P Q h p = h x p
some_then None P Q h p = p

certificate_for : AreCertificates → (s : Parts) (q : Query) (a : Answer) → IsWritable a → Right s q a → IsCertificateFor s q a
certificate_for are s q a writable right =
    (writable, some_then (asked s q) (λ k. IsRightTo s.known.limits k a) (λ k. IsCertificateOf s.known.limits k a) (λ k. are s.known.limits k a) right)

certificate_at : AreCertificates → (s : Parts) (queries : List Query) (answers : List Answer) → AllRight s queries answers → (i : ℕ) → i < length answers →
    IsSomeAnd (slice_get answers i) (λ a. IsSomeAnd (slice_get queries i) (λ q. IsCertificateFor s q a))
certificate_at are s queries [] right i below = absurd (omega arith)
certificate_at are s [] (a ∷ answers) right i below = absurd right
certificate_at are s (q ∷ queries) (a ∷ answers) right zero below = certificate_for are s q a right.1 right.0
certificate_at are s (q ∷ queries) (a ∷ answers) right (suc i) below = certificate_at are s queries answers right.2 i (omega (arith, below))

all_accepted : AreCertificates → (s : Parts) (answers : List Answer) → ClaimsAreTrue s → AllRight s s.queries answers → length answers ≡ length s.queries → AllAccepted s answers
all_accepted are s answers claims right each =
    let accepted : AcceptedTo s answers (length answers) =
    λ number low high. certificate_at are s s.queries answers right (number - 1) (omega (arith, low, high)) in
    record {
      each = each;
      accepted = accepted;
      claims = λ number low high.
          some_then (slice_get answers (number - 1)) (λ a. IsCertificate s number a) (λ a. Claim s number a) (λ a h. claims number a h) (accepted number low high);
    }

pub run_accepted : AreCertificates → (s : Parts) → ClaimsAreTrue s → (bytes text : List ℕ) (has : Bool) → IsRunOutput bytes s has text → IsAllAccepted has text
run_accepted are s claims bytes text has run =
    let few : length run.answers ≤ 1000 = (let most = few_queries bytes s run.spelled in let each = run.each in omega (arith, most, each)) in
    record {
      output = output bytes run.answers;
      script = s;
      checkable = record {
        output = record { writable = (run.short, few, all_writable s s.queries run.answers run.right); text_is = run.text_is ∙ text_same bytes run.answers };
        spelled = run.spelled;
      };
      accepted = all_accepted are s run.answers claims run.right run.each;
      unknown_is = run.unknown_is;
    }

-- ---- the status

not_rejected : (s : Parts) (answers : List Answer) (done : ℕ) → AllAccepted s answers → FirstRejected s answers done → ⊥
not_rejected s answers done all first =
    let within : done < max (length s.queries) (length answers) = first.within in
    let each : length answers ≡ length s.queries = all.each in
    first.rejected (all.accepted (done + 1) (omega arith) (omega (arith, within, each)))

module _ (one_output : OneOutput) (one_script : OneScript) (text : List ℕ) (short : length text ≤ most_checked) (has : Bool) (all : IsAllAccepted has text) where
  has_same : (other : Bool) → IsAllAccepted other text → has ≡ other
  has_same other theirs =
      let here = all.checkable.output in
      let there = theirs.checkable.output in
      let same : all.output ≡ theirs.output = one_output all.output theirs.output here.writable there.writable (sym here.text_is ∙ there.text_is) in
      sym all.unknown_is ∙ (ap (λ (o : Output). has_unknown o.answers) same ∙ theirs.unknown_is)

  pub status_same : (status : Status) → CheckDecides text status → IsJudgement status → status ≡ status_of has
  status_same Definite decides ended = sym (ap status_of (has_same false (decides.definite refl).1))
  status_same SomeUnknown decides ended = sym (ap status_of (has_same true (decides.some_unknown refl).1))
  status_same Refused decides ended =
      absurd (decides.refused refl (record { short = short; output = all.output; script = all.script; checkable = all.checkable }))
  status_same ReadFault decides ended = absurd ended
  status_same WriteFault decides ended = absurd ended
  status_same Memory decides ended = absurd ended
  status_same BadWords decides ended = absurd ended
  status_same Rejected decides ended =
      let found = (decides.rejected refl).1 in
      let theirs = found.1 in
      let here = all.checkable.output in
      let there = theirs.checkable.output in
      let same : theirs.output ≡ all.output = one_output theirs.output all.output there.writable here.writable (sym there.text_is ∙ here.text_is) in
      let spelled : Spells all.output.script theirs.script = subst (λ (o : Output). Spells o.script theirs.script) same theirs.checkable.spelled in
      let script : theirs.script ≡ all.script = one_script all.output.script theirs.script all.script spelled all.checkable.spelled in
      let first : FirstRejected theirs.script all.output.answers found.0 = subst (λ (o : Output). FirstRejected theirs.script o.answers found.0) same theirs.rejected in
      absurd (not_rejected all.script all.output.answers found.0 all.accepted (subst (λ (p : Parts). FirstRejected p all.output.answers found.0) script first))
