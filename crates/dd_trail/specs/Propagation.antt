-- What unit propagation finds when it looks at clauses, and how it extends a trail.
use Rattle.std.specs.Prelude.{◌≡◌, ◌≢◌, ℕ, ◌<◌, ◌≤◌, List, Option, None, length, take, slice_index_or}
use Rattle.dd_clause.specs.declared.clause.Literal.{Literal}
use Rattle.dd_derivation.specs.declared.propagation.Finding.TheVariants.{Falsified, Forced, Open}
use Rattle.dd_derivation.specs.Derivations.{hint_finding, is_among}
use Rattle.dd_trail.specs.{declared.trail.Entry.Entry, Trails.EntryList, Trails.falses, Reasons.IsTrail}
use Rattle.dd_trail.specs.declared.propagation.Scan.{Scan}
use Rattle.dd_trail.specs.declared.propagation.Scan.TheVariants.{Conflict, Unit, Nothing}

-- The scan is right: the clause that it found is falsified, or forces the literal that it found. If it found nothing, `otherwise` holds.
abbrev pub Says : List (Option (List Literal)) → List Literal → Type 0 → Scan → Type 0
Says known falses otherwise (Conflict r) = hint_finding known (is_among falses) r ≡ Falsified
Says known falses otherwise (Unit r l) = hint_finding known (is_among falses) r ≡ Forced l
Says known falses otherwise Nothing = otherwise

-- no clause with a number greater than `from` and at most `to` is falsified or forces a literal
abbrev pub AreOpenBetween : List (Option (List Literal)) → List Literal → ℕ → ℕ → Type 0
AreOpenBetween known falses from to = (r : ℕ) → from < r → r ≤ to → hint_finding known (is_among falses) r ≡ Open

-- all literals of the clause with this number are false
abbrev pub IsConflict : List (Option (List Literal)) → List Entry → ℕ → Type 0
IsConflict known trail r = hint_finding known (is_among (falses trail)) r ≡ Falsified

-- The newer trail is right (see `IsTrail`), over the same variables. It begins with the entries of the older one, and each entry after these has a
-- reason, so it is forced.
pub record Extends (known : List (Option (List Literal))) (older newer : EntryList) : Type 0 where
  pub variables : newer.variables ≡ older.variables
  pub kept : take (length older.entries) newer.entries ≡ older.entries
  pub trail : IsTrail newer.variables known newer.entries
  pub forced : (k : ℕ) (d : Entry) → length older.entries ≤ k → k < length newer.entries → (slice_index_or newer.entries k d).reason ≢ None
