-- What the code keeps of a walk, and how it agrees with the clauses.
use Rattle.std.specs.Prelude.{◌≡◌, ℕ, ◌^◌, ◌<◌, Bool, List, length, map, All}
use Rattle.dd_clause.specs.{declared.clause.Literal.Literal, Clauses.IsClauseInRange}
use Rattle.dd_engines.specs.walking.Truths.{true_count, HasMarks}

-- The literals of the clauses are in range, and the clauses' lengths fit in 64 bits. The counts are those of the clauses' true literals. The marks of
-- the blocks, and the block `start`, agree with the counts.
pub record Walks (clauses : List (List Literal)) (values : List Bool) (counts : List ℕ) (marks : List Bool) (start : ℕ) : Type 0 where
  pub range : All (IsClauseInRange (length values)) clauses
  pub short : All (λ clause. length clause < 2 ^ 64) clauses
  pub counted : counts ≡ map (true_count values) clauses
  pub are_marked : HasMarks counts marks start
