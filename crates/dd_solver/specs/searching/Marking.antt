-- The steps that are marked by a walk from the last step to the first, and the refutation that they form.
use Rattle.std.specs.Prelude.{◌≡◌, ℕ, suc, ◌+◌, ◌-◌, ◌<◌, ◌≤◌, nat_le, Bool, true, false, if◌then◌else◌, List, [], ◌∷◌, map, length, slice_index_or}
use Rattle.dd_derivation.specs.declared.step.Step.{Step}
use Rattle.dd_solver.specs.Trimming.{is_hint}

-- some marked step, after index j and at index `place` or later, has the hint `number`, which is the number of the step at j
pub record IsNeeded (place j number : ℕ) (steps : List Step) (marked : List Bool) : Type 0 where
  pub at : ℕ
  pub from : place ≤ at
  pub later : j < at
  pub within : at < length steps
  pub is_marked : slice_index_or marked at false ≡ true
  pub hinted : (d : Step) → is_hint number (slice_index_or steps at d).hints ≡ true

-- The marks of a walk that has come down to the index `place`. The last step is marked. So is each step that is named by a hint of a later marked
-- step, if this later step stands at `place` or after it. Conversely, each marked step but the last is named by such a hint. The step at index j has
-- the number `clauses + suc j`.
pub record IsMarking (clauses place : ℕ) (steps : List Step) (marked : List Bool) : Type 0 where
  pub as_many : length marked ≡ length steps
  pub last : (j : ℕ) → suc j ≡ length steps → slice_index_or marked j false ≡ true
  pub closed : (k j : ℕ) (d : Step) → place ≤ k → k < length steps → j < k → slice_index_or marked k false ≡ true
      → is_hint (clauses + suc j) (slice_index_or steps k d).hints ≡ true → slice_index_or marked j false ≡ true
  pub needed : (j : ℕ) → suc j < length steps → slice_index_or marked j false ≡ true
      → IsNeeded place j (clauses + suc j) steps marked

-- for each step, the new number of the last marked step up to and including it, or `last` if there is none
abbrev pub numbers_from : ℕ → List Bool → List ℕ
numbers_from last [] = []
numbers_from last (m ∷ marked) = let next = if m then suc last else last in next ∷ numbers_from next marked

-- the new number of a clause: a clause of the list keeps its number, and the step at an index gets the number that `numbers` has at this index; a
-- number that no clause has stays the same
abbrev pub renamed : ℕ → List ℕ → ℕ → ℕ
renamed clauses numbers number =
    if nat_le number clauses then number else slice_index_or numbers (number - clauses - 1) number

-- the step with new numbers in its hints; it deletes nothing
abbrev pub kept_step : (ℕ → ℕ) → Step → Step
kept_step rename s = record { clause = s.clause; hints = map rename s.hints; deletes = [] }

-- the marked steps with new numbers in their hints; they delete nothing
abbrev pub kept_steps : (ℕ → ℕ) → List Bool → List Step → List Step
kept_steps rename [] steps = []
kept_steps rename (m ∷ marked) [] = []
kept_steps rename (m ∷ marked) (s ∷ steps) =
    if m then kept_step rename s ∷ kept_steps rename marked steps else kept_steps rename marked steps
