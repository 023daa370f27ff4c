-- The symbols of an answer, copied one by one to a list of 32-bit numbers.
use Rattle.std.proofs.Common.{◌≡◌, ℕ, ◌<◌, ◌≤◌, List, length, take, get_or, ◌∙◌, arith}
use Rattle.std.proofs.lemmas.List.{take_all, Elements.All-from_get_or}
use Rattle.std.specs.List.{All}

-- after i symbols: the list consists of the first i symbols, and each of these is below `size`
pub record IsNarrowed (symbols : List ℕ) (size i : ℕ) (list : List ℕ) : Type 0 where
  pub read : list ≡ take i symbols
  pub below : (k : ℕ) → k < i → get_or symbols k 0 < size

pub all_narrowed : (symbols : List ℕ) (size i : ℕ) (list : List ℕ) → length symbols ≤ i → IsNarrowed symbols size i list →
    (list ≡ symbols) × All (λ s. s < size) symbols
all_narrowed symbols size i list past told =
    (told.read ∙ take_all i symbols past, All-from_get_or (λ s. s < size) symbols 0 (λ k h. told.below k (omega (arith, h, past))))
