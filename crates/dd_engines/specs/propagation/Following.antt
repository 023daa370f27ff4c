-- What follows by unit propagation from no assumptions, as values of the variables and as a list of entries. An entry is a literal that became true,
-- and the number, counted from 0, of the clause that forced it. The entries are in the order in which the literals became true.
use Rattle.std.specs.Prelude.{◌≡◌, ℕ, ◌-◌, ◌<◌, Bool, true, false, not, if◌then◌else◌, List, [], Option, Some, None, length, map, take, All, slice_index_or}
use Rattle.std.specs.{Bool.beq, List.sum_by}
use Rattle.dd_clause.specs.{declared.clause.Literal.Literal, Clauses.negation}
use Rattle.dd_derivation.specs.declared.propagation.Finding.{Finding}
use Rattle.dd_derivation.specs.declared.propagation.Finding.TheVariants.{Falsified, Forced, Open}
use Rattle.dd_derivation.specs.Derivations.{is_literal_in_range, is_among, is_conflict, finding}
use Rattle.dd_engines.specs.declared.{analysis.Entry.Entry, propagation.Progress.Progress}
use Rattle.dd_engines.specs.declared.propagation.Progress.TheVariants.{Conflict, More, Settled}

-- there is a value, and it differs from this sign
abbrev pub is_other : Bool → Option Bool → Bool
is_other positive None = false
is_other positive (Some value) = not (beq value positive)

-- the literal is false under the values
abbrev pub is_false_by : List (Option Bool) → Literal → Bool
is_false_by values l =
    if is_literal_in_range (length values) l then is_other l.positive (slice_index_or values (l.variable - 1) None) else false

abbrev pub unknown_count : Option Bool → ℕ
unknown_count None = 1
unknown_count (Some value) = 0

-- how many variables have no value
abbrev pub unknowns : List (Option Bool) → ℕ
unknowns values = sum_by unknown_count values

-- the clauses by number, with none deleted
abbrev pub alive : List (List Literal) → List (Option (List Literal))
alive clauses = map (λ c. Some c) clauses

-- the literals that the entries make false
abbrev pub falses : List Entry → List Literal
falses entries = map (λ e. negation e.literal) entries

-- once the literals of the older entries are true, the entry's clause forces the entry's literal
pub record IsForced (clauses : List (List Literal)) (older : List Entry) (e : Entry) : Type 0 where
  pub within : e.number < length clauses
  pub forced : finding (is_among (falses older)) (slice_index_or clauses e.number []) ≡ Forced e.literal

-- each entry follows from the older ones
abbrev pub IsTrail : List (List Literal) → List Entry → Type 0
IsTrail clauses entries = (k : ℕ) (d : Entry) → k < length entries → IsForced clauses (take k entries) (slice_index_or entries k d)

-- the entries make all literals of the clause with this number false
pub record IsFalsified (clauses : List (List Literal)) (entries : List Entry) (number : ℕ) : Type 0 where
  pub within : number < length clauses
  pub falsified : finding (is_among (falses entries)) (slice_index_or clauses number []) ≡ Falsified

-- each entry follows from the older ones, and the entries and the values make the same literals false
pub record Follows (clauses : List (List Literal)) (entries : List Entry) (values : List (Option Bool)) : Type 0 where
  pub agree : (l : Literal) → is_false_by values l ≡ is_among (falses entries) l
  pub trail : IsTrail clauses entries

-- the hints end in a conflict
abbrev pub Ends : List (List Literal) → List ℕ → Type 0
Ends clauses hints = is_conflict (alive clauses) [] hints ≡ true

-- each entry follows from the older ones, and the clause with this number is a conflict: the entries make all its literals false
abbrev pub Conflicts : List (List Literal) → List Entry → ℕ → Type 0
Conflicts clauses entries number = IsTrail clauses entries × IsFalsified clauses entries number

-- under the values, the clause is not falsified and forces no literal
abbrev pub IsSettled : List (Option Bool) → List Literal → Type 0
IsSettled values clause = finding (is_false_by values) clause ≡ Open

-- the new entries and values follow, and there are fewer variables without a value than before
pub record FollowsMore (clauses : List (List Literal)) (values : List (Option Bool)) (new_entries : List Entry) (new_values : List (Option Bool)) : Type 0 where
  pub follows : Follows clauses new_entries new_values
  pub fewer : unknowns new_values < unknowns values

-- what holds after a look at the clause with this number, depending on what the look found
abbrev pub Looked : List (List Literal) → ℕ → List Entry → List (Option Bool) → List Entry → List (Option Bool) → Finding → Type 0
Looked clauses number entries values new_entries new_values Falsified = Conflicts clauses new_entries number
Looked clauses number entries values new_entries new_values (Forced l) = FollowsMore clauses values new_entries new_values
Looked clauses number entries values new_entries new_values Open =
    (new_entries ≡ entries) × (new_values ≡ values) × (number < length clauses → IsSettled values (slice_index_or clauses number []))

-- what holds after a look at this clause and, if it forces a literal, at the clauses that then wait to be looked at, depending on how far propagation
-- got
abbrev pub Followed : List (List Literal) → ℕ → List Entry → List (Option Bool) → List Entry → List (Option Bool) → Progress → Type 0
Followed clauses number entries values new_entries new_values (Conflict conflict) = Conflicts clauses new_entries conflict
Followed clauses number entries values new_entries new_values More = FollowsMore clauses values new_entries new_values
Followed clauses number entries values new_entries new_values Settled =
    (new_entries ≡ entries) × (new_values ≡ values) × (number < length clauses → IsSettled values (slice_index_or clauses number []))

-- what holds after a pass over all clauses, depending on how far propagation got
abbrev pub Passed : List (List Literal) → List (Option Bool) → List Entry → List (Option Bool) → Progress → Type 0
Passed clauses values new_entries new_values (Conflict conflict) = Conflicts clauses new_entries conflict
Passed clauses values new_entries new_values More = FollowsMore clauses values new_entries new_values
Passed clauses values new_entries new_values Settled = (new_values ≡ values) × All (IsSettled values) clauses

-- what holds after a few passes, depending on how far propagation got
abbrev pub PassedFew : List (List Literal) → List Entry → List (Option Bool) → Progress → Type 0
PassedFew clauses new_entries new_values (Conflict conflict) = Conflicts clauses new_entries conflict
PassedFew clauses new_entries new_values More = Follows clauses new_entries new_values
PassedFew clauses new_entries new_values Settled = All (IsSettled new_values) clauses
