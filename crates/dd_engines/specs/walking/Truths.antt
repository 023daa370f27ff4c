-- How many literals of each clause are true, which clauses contain a literal, how a flip changes the counts, and which blocks of clauses have a mark.
use Rattle.std.specs.Prelude.{◌≡◌, ℕ, ◌+◌, ◌-◌, ◌*◌, ◌/◌, ◌^◌, ◌<◌, ◌≤◌, ◌==◌, min, if◌then◌else◌, Bool, true, false, List, [], ◌∷◌, ◌++◌, length, replicate, count_by, slice_get, slice_index_or, slice_set}
use Rattle.std.specs.Option.{option_map_or}
use Rattle.dd_clause.specs.{declared.clause.Literal.Literal, Clauses.is_true_under}
use Rattle.dd_values.specs.Variables.{true_variables}
use Rattle.dd_derivation.specs.Derivations.{same_literal}

-- how many literals of the clause are true
abbrev pub true_count : List Bool → List Literal → ℕ
true_count values clause = count_by (is_true_under (true_variables values)) clause

-- how many times the clause contains the literal
abbrev pub times_in : Literal → List Literal → ℕ
times_in l clause = count_by (same_literal l) clause

-- the numbers of the clauses that contain the literal, each as often as its clause contains the literal; the clauses are numbered from `first` on
abbrev pub occurrences : Literal → ℕ → List (List Literal) → List ℕ
occurrences l first [] = []
occurrences l first (c ∷ cs) = replicate (times_in l c) first ++ occurrences l (first + 1) cs

-- the place of a literal, counted from 0, in a list of all literals: for each variable in turn, first its negation and then the variable itself
abbrev pub place_of : Literal → ℕ
place_of l = 2 * (l.variable - 1) + (if l.positive then 1 else 0)

-- a 64-bit count raised by one; it stops at its maximum
abbrev pub more : ℕ → ℕ
more count = min (count + 1) (2 ^ 64 - 1)

-- a count lowered by one; it stops at 0
abbrev pub less : ℕ → ℕ
less count = count - 1

-- the counts after `f` is applied to those at these places, one after the other
abbrev pub changed : (ℕ → ℕ) → List ℕ → List ℕ → List ℕ
changed f [] counts = counts
changed f (k ∷ ks) counts = changed f ks (slice_set counts k (f (slice_index_or counts k 0)))

-- the count at this place is 0: no literal of its clause is true
abbrev pub is_zero_at : List ℕ → ℕ → Bool
is_zero_at counts k = option_map_or (λ count. count == 0) (slice_get counts k) false

-- The places are divided into blocks of 32, and each block may have a mark. If the count at a place is 0, then the place's block has a
-- mark, and does not come before the block `start`.
pub record HasMarks (counts : List ℕ) (marks : List Bool) (start : ℕ) : Type 0 where
  pub long : length marks ≡ length counts / 32 + 1
  pub after : (k : ℕ) → is_zero_at counts k ≡ true → start ≤ k / 32
  pub marked : (k : ℕ) → is_zero_at counts k ≡ true → slice_index_or marks (k / 32) false ≡ true

-- no place from `first` up to, but not including, `end` has a count of 0
abbrev pub NoneWithin : List ℕ → ℕ → ℕ → Type 0
NoneWithin counts first end = (k : ℕ) → first ≤ k → k < end → is_zero_at counts k ≡ false

-- in this block, the place is the first one with a count of 0
pub record IsFirstIn (counts : List ℕ) (block place : ℕ) : Type 0 where
  pub inside : (32 * block ≤ place) × (place < 32 * block + 32)
  pub within : place < length counts
  pub none : slice_index_or counts place 0 ≡ 0
  pub before : NoneWithin counts (32 * block) place

-- no place has a count of 0
abbrev pub NoneIsZero : List ℕ → Type 0
NoneIsZero counts = (k : ℕ) → is_zero_at counts k ≡ false

-- the place is the first one with a count of 0
pub record IsFirstZero (counts : List ℕ) (place : ℕ) : Type 0 where
  pub within : place < length counts
  pub none : slice_index_or counts place 0 ≡ 0
  pub before : (k : ℕ) → k < place → is_zero_at counts k ≡ false
