-- The marks of the variables whose values a conflict needs.
use Rattle.std.specs.Prelude.{◌≡◌, ◌-◌, Bool, true, false, List, slice_index_or}
use Rattle.dd_clause.specs.declared.clause.Literal.{Literal}
use Rattle.dd_derivation.specs.Derivations.{is_among}

-- the literal's variable is marked
abbrev pub marks : List Bool → Literal → Bool
marks marked l = slice_index_or marked (l.variable - 1) false

-- what was marked stays marked
abbrev pub Grows : List Bool → List Bool → Type 0
Grows old new = (l : Literal) → marks old l ≡ true → marks new l ≡ true

-- the variables of the clause are marked
abbrev pub AreMarked : List Bool → List Literal → Type 0
AreMarked marked clause = (l : Literal) → is_among clause l ≡ true → marks marked l ≡ true
