-- Which learned clauses may be deleted.
use Rattle.std.specs.Prelude.{◌≡◌, ℕ, ◌<◌, ◌≤◌, Bool, true, false, List, Option, Some, length, slice_index_or}
use Rattle.dd_clause.specs.declared.clause.Literal.{Literal}
use Rattle.dd_derivation.specs.Derivations.{clause_of, are_deletable, known_after}
use Rattle.dd_trail.specs.declared.trail.Entry.{Entry}

-- No chosen clause forced an entry of the trail. `chosen` says of each clause number whether that clause is chosen.
abbrev pub AreReasonsSpared : List Entry → List Bool → Type 0
AreReasonsSpared trail chosen =
    (k r : ℕ) (d : Entry) → k < length trail → (slice_index_or trail k d).reason ≡ Some r → slice_index_or chosen r false ≡ false

-- Each clause to be deleted is still there when its turn comes. The clauses numbered up to `first` are kept, and so are those that forced an entry.
pub record MayDelete (known : List (Option (List Literal))) (first : ℕ) (trail : List Entry) (deletes : List ℕ) : Type 0 where
  pub deletable : are_deletable known deletes ≡ true
  pub first_stay : (h : ℕ) → h ≤ first → clause_of (known_after known deletes) h ≡ clause_of known h
  pub reasons_stay : (k r : ℕ) (d : Entry) → k < length trail → (slice_index_or trail k d).reason ≡ Some r
      → clause_of (known_after known deletes) r ≡ clause_of known r
