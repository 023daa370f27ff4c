-- How contracts see a roster.
use Rattle.std.specs.Prelude.{ℕ, Bool, List, map}
use Rattle.dd_engines.specs.{declared.roster.Roster.Roster, Rounds.Seen}

-- an engine as contracts see it, given its two counts and whether it is sound
abbrev pub seen_of_engine : {E : Type 0} → (E → ℕ) → (E → ℕ) → (E → Bool) → E → Seen
seen_of_engine asked given sound engine = record { asked = asked engine; given = given engine; sound = sound engine }

-- each engine as contracts see it, in order
abbrev pub seen_all : {E : Type 0} → (E → ℕ) → (E → ℕ) → (E → Bool) → List E → List Seen
seen_all asked given sound engines = map (seen_of_engine asked given sound) engines

-- the engines of a roster as contracts see them, in order
abbrev pub roster_seen : {E : Type 0} → (E → ℕ) → (E → ℕ) → (E → Bool) → Roster E → List Seen
roster_seen asked given sound roster = seen_all asked given sound roster.engines.items
