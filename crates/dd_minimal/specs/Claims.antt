-- What holds of each pattern of a minimal list.
use Rattle.std.specs.Prelude.{ℕ, ◌≡◌, ◌++◌, true, false, Option, Some, List, [], ◌∷◌, slice_get}
use Rattle.dd_formula.specs.LocalRule.{LocalRule, cells_at}
use Rattle.dd_forbidden.specs.Breaking.{are_allowed, is_true_at_origin, IsBreaking}
use Rattle.dd_minimal.specs.Patterns.{agrees, is_covered, left_out}

-- ss is a filling with allowed symbols that agrees with the pattern, and the rule is true under it
pub record IsSpared (r : LocalRule) (a : ℕ) (p : List (Option ℕ)) (ss : List ℕ) : Type 0 where
  pub allowed : are_allowed r (cells_at r a) ss ≡ true
  pub agreeing : agrees p ss ≡ true
  pub holds : is_true_at_origin r a ss ≡ true

-- for each cell that the pattern keeps, the rule is true under some filling with allowed symbols that agrees with the pattern
-- except perhaps at that cell
abbrev pub NeedsEach : LocalRule → ℕ → List (Option ℕ) → Type 0
NeedsEach r a p = (k s : ℕ) → slice_get p k ≡ Some (Some s) → (ss : List ℕ) × IsSpared r a (left_out k p) ss

-- ss is a breaking filling that agrees with the pattern, and with none of the patterns before it
pub record IsNew (r : LocalRule) (a : ℕ) (before : List (List (Option ℕ))) (p : List (Option ℕ)) (ss : List ℕ) : Type 0 where
  pub breaking : IsBreaking r a ss
  pub agreeing : agrees p ss ≡ true
  pub new : is_covered before ss ≡ false

-- Each pattern of the list agrees with a breaking filling that agrees with none of the patterns before it. The patterns before it are those of
-- `before` and the earlier ones of the list.
abbrev pub AreNew : LocalRule → ℕ → List (List (Option ℕ)) → List (List (Option ℕ)) → Type 0
AreNew r a before [] = Unit {0}
AreNew r a before (p ∷ ps) = ((ss : List ℕ) × IsNew r a before p ss) × AreNew r a (before ++ p ∷ []) ps
