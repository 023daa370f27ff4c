-- The list in which a trail records which literals are false.
use Rattle.std.specs.Prelude.{◌≡◌, ℕ, ◌+◌, ◌*◌, ◌<◌, Bool, false, if◌then◌else◌, List, length, take, slice_index_or}
use Rattle.dd_clause.specs.{declared.clause.Literal.Literal, Clauses.IsLiteralInRange}
use Rattle.dd_derivation.specs.Derivations.{is_among, has_variable}
use Rattle.dd_trail.specs.{declared.trail.Entry.Entry, Trails.falses}

-- the code of a literal: its index in a list of all literals; no literal has the index 0 or 1, as variables are numbered from 1
abbrev pub code : Literal → ℕ
code l = 2 * l.variable + (if l.positive then 1 else 0)

-- the entry's variable is one of 1..n, and no older entry has the same variable
abbrev pub IsNewTo : ℕ → List Entry → Entry → Type 0
IsNewTo n older e = IsLiteralInRange n e.literal × (has_variable e.literal.variable (falses older) ≡ false)

-- The list has 2 * n + 2 values, and says of each literal, at the index of its code, whether it is false. The false literals are the negations of the
-- trail's literals. The variables of the trail's literals are distinct and in range.
pub record IsDenied (n : ℕ) (trail : List Entry) (denied : List Bool) : Type 0 where
  pub as_many : length denied ≡ 2 * n + 2
  pub news : (k : ℕ) (d : Entry) → k < length trail → IsNewTo n (take k trail) (slice_index_or trail k d)
  pub denied_ok : (l : Literal) → slice_index_or denied (code l) false ≡ is_among (falses trail) l
