-- Why each literal of a trail is true: it was decided, or a known clause forces it.
use Rattle.std.specs.Prelude.{◌≡◌, ℕ, ◌<◌, false, List, Option, Some, None, length, take, slice_index_or, ⊤}
use Rattle.dd_clause.specs.{declared.clause.Literal.Literal, Clauses.IsLiteralInRange, Clauses.IsClauseInRange}
use Rattle.dd_derivation.specs.declared.propagation.Finding.TheVariants.{Forced}
use Rattle.dd_derivation.specs.Derivations.{is_among, has_variable, clause_of, hint_finding}
use Rattle.dd_trail.specs.{declared.trail.Entry.Entry, Trails.falses}

-- the variables of each known clause are between 1 and n
abbrev pub AreInRange : ℕ → List (Option (List Literal)) → Type 0
AreInRange n known = (r : ℕ) (c : List Literal) → clause_of known r ≡ Some c → IsClauseInRange n c

-- the literal was decided, or the clause with this number forces it when the literals of the older entries are true
abbrev pub Follows : List (Option (List Literal)) → List Entry → Literal → Option ℕ → Type 0
Follows known older l None = ⊤
Follows known older l (Some r) = hint_finding known (is_among (falses older)) r ≡ Forced l

-- the entry's variable is in range, no older entry has this variable, and the entry's literal was decided or is forced
pub record EntryOk (n : ℕ) (known : List (Option (List Literal))) (older : List Entry) (e : Entry) : Type 0 where
  pub in_range : IsLiteralInRange n e.literal
  pub fresh : has_variable e.literal.variable (falses older) ≡ false
  pub follows : Follows known older e.literal e.reason

-- each entry of the trail is right, given the entries before it
abbrev pub IsTrail : ℕ → List (Option (List Literal)) → List Entry → Type 0
IsTrail n known trail =
    (k : ℕ) (d : Entry) → k < length trail → EntryOk n known (take k trail) (slice_index_or trail k d)
