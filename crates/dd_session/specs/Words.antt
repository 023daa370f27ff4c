-- The words after the program's name.
use Rattle.std.specs.Prelude.{◌≡◌, ℕ, List, [], ◌∷◌, codes, decimal, Option, Some, None}
use Rattle.dd_sample.specs.Sample.{IsSampleNumber}

-- there is exactly one word, and it is this text
abbrev pub IsOnly : List ℕ → List (List ℕ) → Type 0
IsOnly text words = words ≡ text ∷ []

-- the words are `sample` and the number of a sample, in decimal
abbrev pub IsSample : ℕ → List (List ℕ) → Type 0
IsSample number words = IsSampleNumber number × (words ≡ codes "sample" ∷ decimal number ∷ [])

-- the option is the number of the sample that the words ask for, or `None` if they ask for no sample
abbrev pub IsSampleOf : List (List ℕ) → Option ℕ → Type 0
IsSampleOf words (Some number) = IsSample number words
IsSampleOf words None = (number : ℕ) → ¬ IsSample number words

-- the words ask for nothing that a session does
abbrev pub AreBad : List (List ℕ) → Type 0
AreBad words = (¬ IsOnly (codes "run") words) × (¬ IsOnly (codes "check") words) × ((number : ℕ) → ¬ IsSample number words)
