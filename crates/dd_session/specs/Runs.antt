-- What a run read and wrote, for each way in which it may end.
use Rattle.std.specs.Prelude.{◌≡◌, ◌⊎◌, ℕ, ◌≤◌, List, length, Bool, true, false}
use Rattle.std.specs.{declared.option.Option.Option, Io.KnownBytes.Appends}
use Rattle.dd_values.specs.Bounds.{most_script}
use Rattle.dd_outside.specs.Bytes.{GainsFront, ReadToEnd, GivesMore}
use Rattle.dd_script.specs.{Parts.Parts, Scripts.Spells, Scripts.RefusedAs, Scripts.RefusalKind}
use Rattle.dd_session.specs.declared.status.Status.{Status}
use Rattle.dd_session.specs.declared.status.Status.TheVariants.{Definite, SomeUnknown, Refused, ReadFault, WriteFault, Memory, BadWords, Rejected}
use Rattle.dd_session.specs.{Answers.IsOpenAs, Output.long_line, Output.refused_line, Output.refused_words}
use Rattle.dd_session.specs.{Sides.Change, Sides.IsUntouched, Sides.HasFailed, Written.WholeOutput, Written.CutShort}

-- The bytes are a script, and its whole output was written. `has` says whether some answer is UNKNOWN. This depends on the script
-- alone.
pub record WholeRun (old new : Option (List ℕ)) (bytes : List ℕ) (has : Bool) : Type 0 where
  pub script : Parts
  pub spelled : Spells bytes script
  pub output : WholeOutput old new bytes script has
  pub is_open : IsOpenAs has script

-- The bytes are a script, and a prefix of its output was written.
pub record ShortRun (old new : Option (List ℕ)) (bytes : List ℕ) : Type 0 where
  pub script : Parts
  pub spelled : Spells bytes script
  pub output : CutShort old new bytes script

-- The source was read to its end, it gave a script, and the whole output was written, with a right answer to each query.
pub record RanWhole (left_old left_new held_old held_new : Option (List ℕ)) (has : Bool) : Type 0 where
  pub bytes : List ℕ
  pub read : ReadToEnd left_old left_new bytes
  pub short : length bytes ≤ most_script
  pub run : WholeRun held_old held_new bytes has

-- The source was read to its end, it gave a script, and a prefix of an output with right answers was written.
pub record RanShort (left_old left_new held_old held_new : Option (List ℕ)) : Type 0 where
  pub bytes : List ℕ
  pub read : ReadToEnd left_old left_new bytes
  pub short : length bytes ≤ most_script
  pub run : ShortRun held_old held_new bytes

-- A run accepts the bytes: they spell a script, and there are not too many of them.
pub record IsAccepted (bytes : List ℕ) : Type 0 where
  pub short : length bytes ≤ most_script
  pub script : Parts
  pub spelled : Spells bytes script

-- The bytes aren't a script, and this line says so.
pub record IsRefusedBy (bytes : List ℕ) (line : List ℕ) : Type 0 where
  pub command : ℕ
  pub kind : RefusalKind
  pub no_script : RefusedAs bytes command kind
  pub line_is : line ≡ refused_line refused_words command kind

-- The bytes aren't a script, and the line that says so was written.
pub record WholeRefusal (old new : Option (List ℕ)) (bytes : List ℕ) : Type 0 where
  pub line : List ℕ
  pub refused : IsRefusedBy bytes line
  pub appends : Appends old new line

-- The bytes aren't a script, and a prefix of the line that says so was written.
pub record ShortRefusal (old new : Option (List ℕ)) (bytes : List ℕ) : Type 0 where
  pub line : List ℕ
  pub refused : IsRefusedBy bytes line
  pub front : GainsFront old new line

-- The source gave too many bytes, or bytes that aren't a script. This line says so.
pub data IsRefusedInput (left_old left_new : Option (List ℕ)) (line : List ℕ) : Type 0 where
  too_long : GivesMore left_old left_new most_script → line ≡ long_line → IsRefusedInput left_old left_new line
  no_run : (bytes : List ℕ) → ReadToEnd left_old left_new bytes → length bytes ≤ most_script
      → IsRefusedBy bytes line → IsRefusedInput left_old left_new line

-- The input is refused, and the line that says so was written.
pub record RefusedWhole (left_old left_new held_old held_new : Option (List ℕ)) : Type 0 where
  pub line : List ℕ
  pub refused : IsRefusedInput left_old left_new line
  pub appends : Appends held_old held_new line

-- The input is refused, and a prefix of the line that says so was written.
pub record RefusedShort (left_old left_new held_old held_new : Option (List ℕ)) : Type 0 where
  pub line : List ℕ
  pub refused : IsRefusedInput left_old left_new line
  pub front : GainsFront held_old held_new line

-- ---- for each status

-- What a run over these bytes wrote, for each status.
abbrev pub RanOver : {K : Type 0} → Change K → List ℕ → Status → Type 0
RanOver sink bytes Definite = WholeRun sink.bytes_old sink.bytes_new bytes false
RanOver sink bytes SomeUnknown = WholeRun sink.bytes_old sink.bytes_new bytes true
RanOver sink bytes Refused = WholeRefusal sink.bytes_old sink.bytes_new bytes
RanOver sink bytes WriteFault = (ShortRun sink.bytes_old sink.bytes_new bytes ⊎ ShortRefusal sink.bytes_old sink.bytes_new bytes) × HasFailed sink
RanOver sink bytes Memory = ShortRun sink.bytes_old sink.bytes_new bytes ⊎ IsUntouched sink
RanOver sink bytes ReadFault = ⊥
RanOver sink bytes BadWords = ⊥
RanOver sink bytes Rejected = ⊥

-- What a run read and wrote, for each status. `ReadFault` comes only if the source's count of faults rose in this call, and `WriteFault` only if the
-- sink's did, in the sense of `Rose`.
abbrev pub Ended : {S K : Type 0} → Change S → Change K → Status → Type 0
Ended source sink Definite = RanWhole source.bytes_old source.bytes_new sink.bytes_old sink.bytes_new false
Ended source sink SomeUnknown = RanWhole source.bytes_old source.bytes_new sink.bytes_old sink.bytes_new true
Ended source sink Refused = RefusedWhole source.bytes_old source.bytes_new sink.bytes_old sink.bytes_new
Ended source sink ReadFault = IsUntouched sink × HasFailed source
Ended source sink WriteFault =
    (RanShort source.bytes_old source.bytes_new sink.bytes_old sink.bytes_new
    ⊎ RefusedShort source.bytes_old source.bytes_new sink.bytes_old sink.bytes_new) × HasFailed sink
Ended source sink Memory = RanShort source.bytes_old source.bytes_new sink.bytes_old sink.bytes_new ⊎ IsUntouched sink
Ended source sink BadWords = ⊥
Ended source sink Rejected = ⊥

-- A run accepts the bytes. `has` says whether some query of their script has no definite answer.
pub record IsAcceptedAs (has : Bool) (bytes : List ℕ) : Type 0 where
  pub accepted : IsAccepted bytes
  pub is_open : IsOpenAs has accepted.script

-- What the status says about the bytes of the source.
pub record DecidesStatus (bytes : List ℕ) (status : Status) : Type 0 where
  pub definite : status ≡ Definite → IsAcceptedAs false bytes
  pub some_unknown : status ≡ SomeUnknown → IsAcceptedAs true bytes
  pub refused : status ≡ Refused → ¬ IsAccepted bytes
