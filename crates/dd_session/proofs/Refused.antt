-- The line for bytes that are refused, as it follows from the fault that was found.
use Rattle.std.proofs.Common.{◌≡◌, ℕ, List, string_bytes, subst, sym, inl, inr}
use Rattle.dd_script.specs.declared.fault.ScriptKind.{ScriptKind}
use Rattle.dd_script.specs.Scripts.{IsRefusedAs, RefusedAs, RefusalKind, syntax, unknown, twice, dimension, size}
use Rattle.dd_session.specs.declared.status.Status.{Status}
use Rattle.dd_session.specs.declared.status.Status.TheVariants.{Definite, SomeUnknown, Refused, ReadFault, WriteFault, Memory, BadWords, Rejected}
use Rattle.dd_session.specs.{Output.IsLineOf, Output.refused_line, Output.refused_words, Sides.Change, Sides.RefusedBy, Sides.RefusedFor}
use Rattle.dd_session.specs.{Asking.IsToEnd, Runs.IsRefusedBy, Runs.RanOver}
use Rattle.dd_session.proofs.Engaging.{never_to_end}
use Rattle.dd_script.specs.declared.fault.ScriptKind.TheVariants as refused

no_script : (bytes : List ℕ) (n : ℕ) (k : RefusalKind) (line : List ℕ) → RefusedAs bytes n k → line ≡ refused_line refused_words n k → IsRefusedBy bytes line
no_script bytes n k line refused is = record { command = n; kind = k; no_script = refused; line_is = is }

refused_by : (bytes : List ℕ) (n : ℕ) (kind : ScriptKind) (line : List ℕ)
    → IsRefusedAs bytes n kind → IsLineOf refused_words n kind line → IsRefusedBy bytes line
refused_by bytes n refused.Syntax line fault is = no_script bytes n syntax line fault is
refused_by bytes n (refused.Unknown name) line fault is = no_script bytes n (unknown (string_bytes name)) line fault is
refused_by bytes n (refused.Twice name) line fault is = no_script bytes n (twice (string_bytes name)) line fault is
refused_by bytes n refused.Dimension line fault is = no_script bytes n dimension line fault is
refused_by bytes n (refused.Size l) line fault is = no_script bytes n (size l) line fault is
refused_by bytes n refused.Memory line fault is = absurd is

-- the line for a refusal was written, or a prefix of it
pub refusal_over : {K : Type 0} (sink : Change K) (bytes line : List ℕ) (status : Status) → IsRefusedBy bytes line → RefusedBy sink line status → RanOver sink bytes status
refusal_over sink bytes line Refused why wrote = record { line = line; refused = why; appends = wrote }
refusal_over sink bytes line WriteFault why wrote = (inr record { line = line; refused = why; front = wrote.0 }, wrote.1)
refusal_over sink bytes line Definite why wrote = absurd wrote
refusal_over sink bytes line SomeUnknown why wrote = absurd wrote
refusal_over sink bytes line ReadFault why wrote = absurd wrote
refusal_over sink bytes line Memory why wrote = absurd wrote
refusal_over sink bytes line BadWords why wrote = absurd wrote
refusal_over sink bytes line Rejected why wrote = absurd wrote

pub line_over : {K : Type 0} (sink : Change K) (bytes : List ℕ) (n : ℕ) (kind : ScriptKind) (status : Status)
    → IsRefusedAs bytes n kind → RefusedFor sink refused_words n kind status → RanOver sink bytes status
line_over sink bytes n kind status fault (inl refused) =
    refusal_over sink bytes refused.line status (refused_by bytes n kind refused.line fault refused.line_is) refused.wrote
line_over sink bytes n kind status fault (inr (is, kept)) = subst (RanOver sink bytes) (sym is) (inr kept)

-- a run whose input is refused doesn't come to its end
pub refused_to_end : {K : Type 0} (sink : Change K) (words : List ℕ) (n : ℕ) (kind : ScriptKind) (status : Status)
    → RefusedFor sink words n kind status → ¬ IsToEnd status
refused_to_end sink words n kind status (inl refused) to_end = never_to_end sink refused.line status refused.wrote to_end
refused_to_end sink words n kind status (inr (is, kept)) to_end = subst IsToEnd is to_end
