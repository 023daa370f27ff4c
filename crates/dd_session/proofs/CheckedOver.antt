-- What a check of bytes wrote, put together from what its parts wrote. If a comment only says what happened, its lemma is about that case.
use Rattle.std.proofs.Common.{◌≡◌, ◌≤◌, length, inl, inr, ℕ, List, Bool, true, false, codes, string_bytes, refl, sym, ap, subst}
use Rattle.std.specs.declared.option.Option.{Option}
use Rattle.dd_certificate.specs.declared.answer.Answer.{Answer}
use Rattle.dd_output.specs.{declared.output.Output.Output, Offsets.IsOutputFault, Outputs.output_text, Outputs.IsWritableOutput}
use Rattle.dd_script.specs.{declared.fault.ScriptKind.ScriptKind, Parts.Parts}
use Rattle.dd_script.specs.Scripts.{Spells, IsRefusedAs, syntax, unknown, twice, dimension, size}
use Rattle.dd_session.specs.declared.status.Status.{Status}
use Rattle.dd_session.specs.declared.status.Status.TheVariants.{Definite, SomeUnknown, Refused, ReadFault, WriteFault, Memory, BadWords, Rejected}
use Rattle.dd_session.specs.{Answers.has_unknown, Output.IsLineOf, Sides.Change, Sides.RefusedBy, Sides.RefusedFor, Sides.status_of}
use Rattle.dd_session.specs.Checks.{offset_line, IsOutput, IsCheckable, IsRefusedOutput, malformed, no_script}
use Rattle.dd_session.specs.Checked.{CheckedOver}
use Rattle.dd_session.specs.checking.Judged.{RejectedHere, AcceptedAll, AllJudged, checked_status}
use Rattle.dd_output.specs.declared.fault.CertificateFault.TheVariants as faults
use Rattle.dd_script.specs.declared.fault.ScriptKind.TheVariants as refused

output_itself : (o : Output) → IsWritableOutput o → IsOutput (output_text o) o
output_itself o writable = record { writable = writable; text_is = refl }

-- the line for a refusal was written, or a prefix of it
pub refused_over : {K : Type 0} (sink : Change K) (bytes line : List ℕ) (status : Status) → IsRefusedOutput bytes line → RefusedBy sink line status
    → CheckedOver sink bytes status
refused_over sink bytes line Refused why wrote = record { line = line; refused = why; appends = wrote }
refused_over sink bytes line WriteFault why wrote = (inr record { line = line; refused = why; front = wrote.0 }, wrote.1)
refused_over sink bytes line Definite why wrote = absurd wrote
refused_over sink bytes line SomeUnknown why wrote = absurd wrote
refused_over sink bytes line ReadFault why wrote = absurd wrote
refused_over sink bytes line Memory why wrote = absurd wrote
refused_over sink bytes line BadWords why wrote = absurd wrote
refused_over sink bytes line Rejected why wrote = absurd wrote

-- the bytes aren't an output
pub offset_over : {K : Type 0} (sink : Change K) (bytes line text : List ℕ) (offset : ℕ) (status : Status) → IsOutputFault bytes (faults.Malformed offset)
    → line ≡ offset_line offset → text ≡ line → RefusedBy sink text status → CheckedOver sink bytes status
offset_over sink bytes line text offset status none is same wrote =
    refused_over sink bytes line status (malformed offset none.0 none.1 is) (subst (λ (l : List ℕ). RefusedBy sink l status) same wrote)

refused_script : (o : Output) (n : ℕ) (kind : ScriptKind) (line : List ℕ) → IsWritableOutput o
    → IsRefusedAs o.script n kind → IsLineOf (codes "refused script") n kind line → IsRefusedOutput (output_text o) line
refused_script o n refused.Syntax line writable fault is = no_script o (output_itself o writable) n syntax fault is
refused_script o n (refused.Unknown name) line writable fault is = no_script o (output_itself o writable) n (unknown (string_bytes name)) fault is
refused_script o n (refused.Twice name) line writable fault is = no_script o (output_itself o writable) n (twice (string_bytes name)) fault is
refused_script o n refused.Dimension line writable fault is = no_script o (output_itself o writable) n dimension fault is
refused_script o n (refused.Size l) line writable fault is = no_script o (output_itself o writable) n (size l) fault is
refused_script o n refused.Memory line writable fault is = absurd is

pub few_bytes : (o : Output) (bytes : List ℕ) → IsWritableOutput o → bytes ≡ o.script → length bytes ≤ 1048576
few_bytes o bytes writable is = rw is writable.0

pub same_spelled : (o : Output) (bytes : List ℕ) (s : Parts) → bytes ≡ o.script → Spells bytes s → Spells o.script s
same_spelled o bytes s is spelled = subst (λ (l : List ℕ). Spells l s) is spelled

-- the script part of the output isn't a script
pub script_over : {K : Type 0} (sink : Change K) (o : Output) (bytes : List ℕ) (n : ℕ) (kind : ScriptKind) (status : Status) → IsWritableOutput o
    → bytes ≡ o.script → IsRefusedAs bytes n kind → RefusedFor sink (codes "refused script") n kind status → CheckedOver sink (output_text o) status
script_over sink o bytes n kind status writable of fault (inl refused) =
    refused_over sink (output_text o) refused.line status
    (refused_script o n kind refused.line writable (subst (λ (l : List ℕ). IsRefusedAs l n kind) of fault) refused.line_is) refused.wrote
script_over sink o bytes n kind status writable of fault (inr (is, kept)) = subst (CheckedOver sink (output_text o)) (sym is) (inr kept)

checkable : (o : Output) (s : Parts) → IsWritableOutput o → Spells o.script s → IsCheckable (output_text o) o s
checkable o s writable spelled = record { output = output_itself o writable; spelled = spelled }

-- nothing was rejected
accepted_over : {K : Type 0} (sink : Change K) (o : Output) (s : Parts) (has : Bool) (status : Status) → IsWritableOutput o → Spells o.script s
    → AcceptedAll sink.bytes_old sink.bytes_new s o.answers → has ≡ has_unknown o.answers → status ≡ status_of has
    → CheckedOver sink (output_text o) status
accepted_over sink o s true status writable spelled accepted is status_is =
    subst (CheckedOver sink (output_text o)) (sym status_is)
    (record {
      all = record { output = o; script = s; checkable = checkable o s writable spelled; accepted = accepted.all; unknown_is = sym is };
      appends = accepted.appends;
    })
accepted_over sink o s false status writable spelled accepted is status_is =
    subst (CheckedOver sink (output_text o)) (sym status_is)
    (record {
      all = record { output = o; script = s; checkable = checkable o s writable spelled; accepted = accepted.all; unknown_is = sym is };
      appends = accepted.appends;
    })

-- something was rejected
rejected_over : {K : Type 0} (sink : Change K) (o : Output) (s : Parts) (status : Status) → IsWritableOutput o → Spells o.script s
    → RejectedHere sink.bytes_old sink.bytes_new s o.answers → status ≡ Rejected → CheckedOver sink (output_text o) status
rejected_over sink o s status writable spelled here status_is =
    subst (CheckedOver sink (output_text o)) (sym status_is)
    (record {
      done = here.done;
      rejected = record { output = o; script = s; checkable = checkable o s writable spelled; rejected = here.rejected };
      appends = here.appends;
    })

-- the check came to its end
pub judged_over : {K : Type 0} (sink : Change K) (o : Output) (s : Parts) (answers : List Answer) (accepted : Bool) (status : Status) → IsWritableOutput o
    → Spells o.script s → answers ≡ o.answers → AllJudged sink.bytes_old sink.bytes_new s answers accepted
    → status ≡ checked_status accepted (has_unknown answers) → CheckedOver sink (output_text o) status
judged_over sink o s answers true status writable spelled same judged is =
    accepted_over sink o s (has_unknown answers) status writable spelled
    (subst (λ (l : List Answer). AcceptedAll sink.bytes_old sink.bytes_new s l) same judged) (ap has_unknown same) is
judged_over sink o s answers false status writable spelled same judged is =
    rejected_over sink o s status writable spelled
    (subst (λ (l : List Answer). RejectedHere sink.bytes_old sink.bytes_new s l) same judged) is

pub few_answers : (o : Output) (answers : List Answer) → IsWritableOutput o → answers ≡ o.answers → length answers ≤ 1000
few_answers o answers writable is = rw is writable.1

pub same_over : {K : Type 0} (sink : Change K) (bytes other : List ℕ) (status : Status) → bytes ≡ other → CheckedOver sink other status → CheckedOver sink bytes status
same_over sink bytes other status is over = subst (λ (l : List ℕ). CheckedOver sink l status) (sym is) over
