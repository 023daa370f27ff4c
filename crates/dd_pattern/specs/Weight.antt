-- Weights: the symbol s has the weight at index s of a list of natural numbers.
use Rattle.std.specs.{Prelude.ℕ, Prelude.◌<◌, Prelude.◌≤◌, Prelude.List, Prelude.length, Prelude.slice_index, Prelude.sum_by, List.All}
use Rattle.dd_values.specs.Bounds.{most_weight}

-- each of the symbols has a weight, and each weight is at most most_weight
pub record AreWeights (ws ss : List ℕ) : Type 0 where
  pub known : All (λ s. s < length ws) ss
  pub small : All (λ w. w ≤ most_weight) ws

-- the sum of the symbols' weights
abbrev pub total_weight : List ℕ → List ℕ → ℕ
total_weight ws ss = sum_by (slice_index ws) ss
