-- The copy of the clauses that propagation reads: the literals of all clauses, one clause after the other.
use Rattle.std.specs.Prelude.{◌≡◌, ◌≢◌, ℕ, ◌<◌, ◌≤◌, true, List, Option, Some, length, slice_index_or}
use Rattle.dd_clause.specs.declared.clause.Literal.{Literal}
use Rattle.dd_derivation.specs.Derivations.{is_among, clause_of}
use Rattle.dd_trail.specs.declared.copies.Code.{Code}
use Rattle.dd_trail.specs.keeping.Values.{code}

-- For each place of the copy, the number of the clause that stands there, and the code of a literal of this clause or an end mark.
pub record Copy : Type 0 where
  pub numbers : List ℕ
  pub codes : List Code

-- the end mark: no literal has the code 0, as variables are numbered from 1
abbrev pub end_mark : Code
end_mark = record { index = 0 }

-- the code at a place
abbrev pub code_at : List Code → ℕ → ℕ
code_at codes p = (slice_index_or codes p end_mark).index

-- the number at a place
abbrev pub number_at : List ℕ → ℕ → ℕ
number_at numbers p = slice_index_or numbers p 0

-- a place of the clause with the number r holds the literal
pub record IsCopied (copy : Copy) (r : ℕ) (l : Literal) : Type 0 where
  pub place : ℕ
  pub within : place < length copy.codes
  pub number : number_at copy.numbers place ≡ r
  pub is_code : code_at copy.codes place ≡ code l
  pub not_end : code_at copy.codes place ≢ 0

-- the code is that of a literal of the clause
pub record IsOf (clause : List Literal) (index : ℕ) : Type 0 where
  pub literal : Literal
  pub member : is_among clause literal ≡ true
  pub is_code : index ≡ code literal

-- the places with the number r hold the literals of the clause, and otherwise only end marks
pub record HoldsClause (copy : Copy) (r : ℕ) (clause : List Literal) : Type 0 where
  pub each : (l : Literal) → is_among clause l ≡ true → IsCopied copy r l
  pub only : (p : ℕ) → p < length copy.codes → number_at copy.numbers p ≡ r → code_at copy.codes p ≢ 0 → IsOf clause (code_at copy.codes p)

-- No number in the copy is greater than the number of the last clause, known or deleted. If a known clause has places in the copy, they hold its
-- literals.
pub record AreCopied (known : List (Option (List Literal))) (copy : Copy) : Type 0 where
  pub numbered : (p : ℕ) → number_at copy.numbers p ≤ length known
  pub clauses : (p : ℕ) (clause : List Literal) → p < length copy.codes → clause_of known (number_at copy.numbers p) ≡ Some clause
      → HoldsClause copy (number_at copy.numbers p) clause

-- there is a number for each code, and the numbers never fall from one place to the next
pub record IsOrdered (numbers : List ℕ) (codes : List Code) : Type 0 where
  pub as_many : length numbers ≡ length codes
  pub rise : (j k : ℕ) → j ≤ k → k < length numbers → number_at numbers j ≤ number_at numbers k
