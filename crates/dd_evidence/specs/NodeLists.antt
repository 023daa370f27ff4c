-- Lists that are made node by node. `IsHere a` says which list of items belongs to the node a. `entry a` turns each of these items into an entry of
-- the whole list.
use Rattle.std.specs.Prelude.{ℕ, zero, suc, ◌≡◌, List, [], ◌++◌, map}

-- the list is one that satisfies IsBefore, followed by the entries of the node n
pub record IsListedAfter {A B : Type 0} (IsHere : ℕ → List A → Type 0) (entry : ℕ → A → B) (n : ℕ) (IsBefore : List B → Type 0) (list : List B) : Type 0 where
  pub before : List B
  pub is_before : IsBefore before
  pub here : List A
  pub is_here : IsHere n here
  pub whole : list ≡ before ++ map (entry n) here

-- the list has the entries of the first n nodes, node by node
abbrev pub IsListTo : {A B : Type 0} → (ℕ → List A → Type 0) → (ℕ → A → B) → ℕ → List B → Type 0
IsListTo IsHere entry zero list = list ≡ []
IsListTo IsHere entry (suc n) list = IsListedAfter IsHere entry n (IsListTo IsHere entry n) list
