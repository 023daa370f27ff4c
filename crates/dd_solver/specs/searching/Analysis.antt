-- The clause learned from a conflict, and where the search goes back to.
use Rattle.std.specs.Prelude.{◌≡◌, ℕ, ◌<◌, ◌≤◌, ◌-◌, ◌&&◌, Bool, true, false, List, Option, Some, None, length, take, slice_index_or, MatchOption, ⊤}
use Rattle.dd_clause.specs.{declared.clause.Literal.Literal, Clauses.negation}
use Rattle.dd_derivation.specs.declared.propagation.Finding.TheVariants.{Forced}
use Rattle.dd_derivation.specs.Derivations.{is_among, finding, clause_of, is_proper, is_conflict}
use Rattle.dd_trail.specs.{declared.trail.Entry.Entry, Trails.falses}
use Rattle.dd_solver.specs.declared.analysis.{Backjump.Backjump, Choice.Choice}
use Rattle.dd_solver.specs.declared.analysis.Choice.TheVariants.{Resolve, Keep}

-- the literal's variable is marked; `marked` holds the mark of the variable v at index v - 1
abbrev pub marks : List Bool → Literal → Bool
marks marked l = slice_index_or marked (l.variable - 1) false

-- what was marked stays marked
abbrev pub Grows : List Bool → List Bool → Type 0
Grows old new = (l : Literal) → marks old l ≡ true → marks new l ≡ true

-- the variables of the clause are marked
abbrev pub AreMarked : List Bool → List Literal → Type 0
AreMarked marked c = (l : Literal) → is_among c l ≡ true → marks marked l ≡ true

-- the variables of the clause with this number are marked, if there is such a clause
abbrev pub IsMarkedClause : List (Option (List Literal)) → List Bool → ℕ → Type 0
IsMarkedClause known marked r = MatchOption (clause_of known r) ⊤ (AreMarked marked)

-- the hints show that the learned clause follows, and its variables are distinct and in range
abbrev pub is_rightly_learned : ℕ → List (Option (List Literal)) → List Literal → List ℕ → Bool
is_rightly_learned n known learned hints = is_proper n learned && is_conflict known learned hints

-- p is the place of a decision, at or before the place `top`, and no entry from p up to but excluding `top` is marked
pub record IsPlace (trail : List Entry) (marked : List Bool) (top p : ℕ) : Type 0 where
  pub from : p ≤ top
  pub decided : (d : Entry) → (slice_index_or trail p d).reason ≡ None
  pub between : (k : ℕ) (d : Entry) → p ≤ k → k < top → marks marked (slice_index_or trail k d).literal ≡ false

-- The backjump goes back to just before a decision, which stands at `place` or earlier. No entry from that decision up to but excluding `place` is
-- marked. The backjump makes the literal at `place` false.
pub record IsBackjump (trail : List Entry) (marked : List Bool) (place : ℕ) (backjump : Backjump) : Type 0 where
  pub at : IsPlace trail marked place backjump.place
  pub literal : (d : Entry) → backjump.literal ≡ negation (slice_index_or trail place d).literal

-- The choice is right. If the entry is resolved, the clause with the chosen number is its reason. If it is the first entry kept, the backjump is
-- right for its place. If it is kept and another entry was kept before, the backjump stays the same.
abbrev pub ChoiceSays : List Entry → List Bool → Option Backjump → ℕ → Choice → Type 0
ChoiceSays trail marked backjump place (Resolve r) = (d : Entry) → (slice_index_or trail place d).reason ≡ Some r
ChoiceSays trail marked None place (Keep t) = IsBackjump trail marked place t
ChoiceSays trail marked (Some u) place (Keep t) = t ≡ u

-- the backjump's place is that of a decision; with only the entries before this place, the learned clause forces the backjump's literal
pub record Asserts (trail : List Entry) (learned : List Literal) (backjump : Backjump) : Type 0 where
  pub within : backjump.place < length trail
  pub decided : (d : Entry) → (slice_index_or trail backjump.place d).reason ≡ None
  pub forces : finding (is_among (falses (take backjump.place trail))) learned ≡ Forced backjump.literal
