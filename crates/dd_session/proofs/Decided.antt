-- How a run ended, and what its status says about the bytes of the source, if these are known. If a comment only says what happened, its lemma is
-- about that case.
use Rattle.std.proofs.Common.{◌≡◌, ◌≢◌, inl, inr, ℕ, suc, ◌+◌, ◌≤◌, List, [], Bool, refl, true, false, ◌++◌, None, Some, sym, ◌∙◌, ap, subst, length, arith, append-nil, length-append}
use Rattle.std.proofs.KnownBytes.{Consumes-nil}
use Rattle.std.specs.declared.option.Option.{Option}
use Rattle.dd_values.specs.Bounds.{most_script}
use Rattle.dd_outside.specs.Bytes.{ReadToEnd, GivesMore, GivesAtMost}
use Rattle.dd_script.specs.{Parts.Parts, Scripts.Spells, Scripts.RefusedAs, Scripts.RefusalKind}
use Rattle.dd_session.specs.declared.status.Status.{Status}
use Rattle.dd_session.specs.declared.status.Status.TheVariants.{Definite, SomeUnknown, Refused, ReadFault, WriteFault, Memory, BadWords, Rejected}
use Rattle.dd_session.specs.Sides.{Change}
use Rattle.dd_session.specs.Runs.{RanOver, Ended, IsAccepted, IsAcceptedAs, DecidesStatus, RanWhole, RefusedWhole, IsRefusedInput, IsRefusedBy, too_long, no_run}

-- If the bytes of a source are known and it is read to its end, the bytes that were read are the known ones.
pub known_bytes : (bytes given : List ℕ) (left : Option (List ℕ)) → ReadToEnd (Some bytes) left given → bytes ≡ given
known_bytes bytes given None to_end = absurd to_end.consumed
known_bytes bytes given (Some rest) to_end = to_end.consumed ∙ ap (λ (l : List ℕ). given ++ l) to_end.at_end ∙ append-nil given

pub known_more : (bytes : List ℕ) (left : Option (List ℕ)) (limit : ℕ) → GivesMore (Some bytes) left limit → suc limit ≤ length bytes
known_more bytes None limit more = absurd more.consumed
known_more bytes (Some rest) limit more = omega (arith, ap length more.consumed, length-append more.given rest, more.many)

-- bytes spell at most one script
abbrev pub OneScript : Type 0
OneScript = (bytes : List ℕ) (s t : Parts) → Spells bytes s → Spells bytes t → s ≡ t

-- bytes that spell a script are not refused
abbrev pub NeverBoth : Type 0
NeverBoth = (bytes : List ℕ) (s : Parts) (n : ℕ) (k : RefusalKind) → Spells bytes s → RefusedAs bytes n k → ⊥

module _ (never_both : NeverBoth) where
  refused_no_script : (bytes line : List ℕ) (s : Parts) → IsRefusedBy bytes line → ¬ Spells bytes s
  refused_no_script bytes line s refused spelled = never_both bytes s refused.command refused.kind spelled refused.no_script

  not_accepted : (bytes line : List ℕ) (left : Option (List ℕ)) → IsRefusedInput (Some bytes) left line → ¬ IsAccepted bytes
  not_accepted bytes line left (too_long more is) accepted = absurd (omega (arith, known_more bytes left most_script more, accepted.short))
  not_accepted bytes line left (no_run given to_end short refused) accepted =
      refused_no_script bytes line accepted.script
      (subst (λ (l : List ℕ). IsRefusedBy l line) (sym (known_bytes bytes given left to_end)) refused) accepted.spelled

  ran_accepted : (bytes : List ℕ) (left held_old held_new : Option (List ℕ)) (has : Bool)
      → RanWhole (Some bytes) left held_old held_new has → IsAcceptedAs has bytes
  ran_accepted bytes left held_old held_new has ran =
      let same : bytes ≡ ran.bytes = known_bytes bytes ran.bytes left ran.read in
      record {
        accepted = record {
          short = rw same ran.short;
          script = ran.run.script;
          spelled = subst (λ (l : List ℕ). Spells l ran.run.script) (sym same) ran.run.spelled;
        };
        is_open = ran.run.is_open;
      }

  pub decided : {S K : Type 0} (source : Change S) (sink : Change K) (status : Status) → Ended source sink status
      → (bytes : List ℕ) → source.bytes_old ≡ Some bytes → DecidesStatus bytes status
  decided source sink status ended bytes is = record {
    definite = λ e.
        (let ran : RanWhole source.bytes_old source.bytes_new sink.bytes_old sink.bytes_new false = subst (Ended source sink) e ended in
        ran_accepted bytes source.bytes_new sink.bytes_old sink.bytes_new false (subst (λ t. RanWhole t source.bytes_new sink.bytes_old sink.bytes_new false) is ran));
    some_unknown = λ e.
        (let ran : RanWhole source.bytes_old source.bytes_new sink.bytes_old sink.bytes_new true = subst (Ended source sink) e ended in
        ran_accepted bytes source.bytes_new sink.bytes_old sink.bytes_new true (subst (λ t. RanWhole t source.bytes_new sink.bytes_old sink.bytes_new true) is ran));
    refused = λ e.
        (let ran : RefusedWhole source.bytes_old source.bytes_new sink.bytes_old sink.bytes_new = subst (Ended source sink) e ended in
        let whole : RefusedWhole (Some bytes) source.bytes_new sink.bytes_old sink.bytes_new = subst (λ t. RefusedWhole t source.bytes_new sink.bytes_old sink.bytes_new) is ran in
        not_accepted bytes whole.line source.bytes_new whole.refused);
  }

-- ---- how a session ended, as it follows from how the run over the bytes ended

-- The input was read to its end.
pub ended_run : {S K : Type 0} (source : Change S) (sink : Change K) (given bytes : List ℕ) (status : Status) → ReadToEnd source.bytes_old source.bytes_new given
    → length given ≤ most_script → bytes ≡ given → RanOver sink bytes status → Ended source sink status
ended_run source sink given bytes status to_end short same ran = by_status status (subst (λ (l : List ℕ). RanOver sink l status) same ran) where
  no_line : (line : List ℕ) → IsRefusedBy given line → IsRefusedInput source.bytes_old source.bytes_new line
  no_line line refused = no_run given to_end short refused

  by_status : (status : Status) → RanOver sink given status → Ended source sink status
  by_status Definite run = record { bytes = given; read = to_end; short = short; run = run }
  by_status SomeUnknown run = record { bytes = given; read = to_end; short = short; run = run }
  by_status Refused run = record { line = run.line; refused = no_line run.line run.refused; appends = run.appends }
  by_status WriteFault (inl run, failed) = (inl record { bytes = given; read = to_end; short = short; run = run }, failed)
  by_status WriteFault (inr run, failed) = (inr record { line = run.line; refused = no_line run.line run.refused; front = run.front }, failed)
  by_status Memory (inl run) = inl record { bytes = given; read = to_end; short = short; run = run }
  by_status Memory (inr kept) = inr kept
  by_status ReadFault run = absurd run
  by_status BadWords run = absurd run
  by_status Rejected run = absurd run

-- no run ends with `BadWords`
pub never_ran : {S K : Type 0} (source : Change S) (sink : Change K) (status : Status) → Ended source sink status → status ≢ BadWords
never_ran source sink status ended is = let none : ⊥ = subst (Ended source sink) is ended in none

-- ---- how much was taken

pub took_all : (old new : Option (List ℕ)) (bytes : List ℕ) → ReadToEnd old new bytes → length bytes ≤ most_script → GivesAtMost old new (most_script + 1)
took_all old new bytes to_end short = record { given = bytes; consumed = to_end.consumed; few = omega (arith, short) }
