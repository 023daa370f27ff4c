-- What a session does for each word.
use Rattle.std.proofs.Common.{◌≡◌, ◌≢◌, ◌⊎◌, ◌≤◌, ℕ, List, codes, refl, subst, inl, inr, arith}
use Rattle.std.specs.declared.option.Option.{Option}
use Rattle.dd_sample.specs.Sample.{sample_text}
use Rattle.dd_session.specs.declared.status.Status.{Status, TheVariants.BadWords}
use Rattle.dd_session.specs.{Sides.Change, Sides.change, Sides.IsUntouched, Words.IsOnly, Words.IsSample, Words.AreBad}
use Rattle.dd_session.specs.Asking.{Engines, AreUnasked, AreKept, HasBegun, IsToEnd, AsksFirstOver, AsksFirst}
use Rattle.dd_session.specs.Sessions.{IsRun, IsCheck, IsSampleRun, IsIdle, KeepsCounts, IsSession, Consults}
use Rattle.dd_session.proofs.{CheckEnds.never_bad, Decided.never_ran, Engaging.refused_unasked, Engaging.same_sample, Sampled.never_sampled}
use Rattle.dd_session.proofs.Words.{different, alone, one_sample}

-- ---- what is read and written

-- If the words ask for something and the status is not `BadWords`, `IsIdle` holds trivially.
idle_never : {S K : Type 0} (words : List (List ℕ)) (source : Change S) (sink : Change K) (status : Status) → status ≢ BadWords → ¬ AreBad words
    → IsIdle words source sink status
idle_never words source sink status never asked = record {
  says = (λ e. absurd (never e), λ bad. absurd (asked bad));
  source_kept = λ e. absurd (never e);
  sink_kept = λ e. absurd (never e);
}

pub run_session : {S K : Type 0} (words : List (List ℕ)) (source : Change S) (sink : Change K) (status : Status) → IsOnly (codes "run") words
    → IsRun source sink status → KeepsCounts source sink → IsSession words source sink status
run_session words source sink status is ran counts = record {
  run = λ _. ran;
  check = λ other. absurd (different words is other);
  sample = λ number sample. absurd (alone (codes "run") words number is sample);
  other = idle_never words source sink status (never_ran source sink status ran.ended) (λ bad. bad.0 is);
  faults = counts;
}

pub check_session : {S K : Type 0} (words : List (List ℕ)) (source : Change S) (sink : Change K) (status : Status) → IsOnly (codes "check") words
    → IsCheck source sink status → KeepsCounts source sink → IsSession words source sink status
check_session words source sink status is checked counts = record {
  run = λ other. absurd (different words other is);
  check = λ _. checked;
  sample = λ number sample. absurd (alone (codes "check") words number is sample);
  other = idle_never words source sink status (never_bad source sink status checked.ended) (λ bad. bad.1 is);
  faults = counts;
}

pub sample_session : {S K : Type 0} (words : List (List ℕ)) (source : Change S) (sink : Change K) (number : ℕ) (status : Status) → IsSample number words
    → IsSampleRun number source sink status → KeepsCounts source sink → IsSession words source sink status
sample_session words source sink number status sample ran counts = record {
  run = λ is. absurd (alone (codes "run") words number is sample);
  check = λ is. absurd (alone (codes "check") words number is sample);
  sample = λ n other. subst (λ (m : ℕ). IsSampleRun m source sink status) (one_sample words number n sample other) ran;
  other = idle_never words source sink status (never_sampled sink number status ran.ended) (λ bad. bad.2 number sample);
  faults = counts;
}

pub idle_session : {S K : Type 0} (words : List (List ℕ)) (source : Change S) (sink : Change K) → AreBad words → IsUntouched source → IsUntouched sink
    → KeepsCounts source sink → IsSession words source sink BadWords
idle_session words source sink bad source_kept sink_kept counts = record {
  run = λ is. absurd (bad.0 is);
  check = λ is. absurd (bad.1 is);
  sample = λ number sample. absurd (bad.2 number sample);
  other = record { says = (λ _. bad, λ _. refl); source_kept = λ _. source_kept; sink_kept = λ _. sink_kept };
  faults = counts;
}

-- If the source and the sink are as they were, so are their counts of faults.
pub same_counts : {S K : Type 0} (left : S → Option (List ℕ)) (faults : S → ℕ) (held : K → Option (List ℕ)) (failures : K → ℕ) (source : S) (sink : K)
    → KeepsCounts (change left faults source source) (change held failures sink sink)
same_counts left faults held failures source sink = record { source_faults = omega arith; sink_faults = omega arith }

-- ---- which engines are asked

pub run_consults : {S K E : Type 0} (words : List (List ℕ)) (source : Change S) (sink : Change K) (roster : Engines E) (status : Status) → IsOnly (codes "run") words
    → AreKept roster status → AreUnasked roster ⊎ HasBegun source.bytes_old source.bytes_new sink.bytes_old sink.bytes_new
    → (IsToEnd status → AsksFirst source.bytes_old source.bytes_new roster.before roster.after) → Consults words source sink roster status
run_consults words source sink roster status is kept late asked = record {
  always = kept;
  run = λ _. record {
    late = late;
    refused = λ bytes known never. refused_unasked (AreUnasked roster) bytes source.bytes_old source.bytes_new sink.bytes_old sink.bytes_new known never late;
    asked = asked;
  };
  check = λ other. absurd (different words is other);
  sample = λ number sample. absurd (alone (codes "run") words number is sample);
}

pub check_consults : {S K E : Type 0} (words : List (List ℕ)) (source : Change S) (sink : Change K) (roster : Engines E) (status : Status) → IsOnly (codes "check") words
    → AreKept roster status → AreUnasked roster → Consults words source sink roster status
check_consults words source sink roster status is kept unasked = record {
  always = kept;
  run = λ other. absurd (different words other is);
  check = λ _. unasked;
  sample = λ number sample. absurd (alone (codes "check") words number is sample);
}

pub sample_consults : {S K E : Type 0} (words : List (List ℕ)) (source : Change S) (sink : Change K) (roster : Engines E) (number : ℕ) (status : Status)
    → IsSample number words → AreKept roster status → (IsToEnd status → AsksFirstOver (sample_text number) roster.before roster.after)
    → Consults words source sink roster status
sample_consults words source sink roster number status sample kept asked = record {
  always = kept;
  run = λ is. absurd (alone (codes "run") words number is sample);
  check = λ is. absurd (alone (codes "check") words number is sample);
  sample = λ n other to_end. same_sample roster.before roster.after number n (one_sample words number n sample other) (asked to_end);
}

pub idle_consults : {S K E : Type 0} (words : List (List ℕ)) (source : Change S) (sink : Change K) (roster : Engines E) (status : Status) → AreBad words
    → AreKept roster status → Consults words source sink roster status
idle_consults words source sink roster status bad kept = record {
  always = kept;
  run = λ is. absurd (bad.0 is);
  check = λ is. absurd (bad.1 is);
  sample = λ number sample. absurd (bad.2 number sample);
}
