-- Fillings as words, which are lists of symbols, and the numbers of the words that agree with a pattern. Words are numbered from 0 in lexicographic
-- order.
use Rattle.std.specs.Prelude.{ℕ, zero, suc, ◌≡◌, ◌<◌, ◌+◌, ◌-◌, ◌*◌, ◌/◌, ◌%◌, ◌^◌, Option, Some, None, IfSome, List, [], ◌∷◌, length, map}
use Rattle.std.specs.List.{All}

-- ss is a word: a list of n symbols, each among the first m
pub record IsWord (m n : ℕ) (ss : List ℕ) : Type 0 where
  pub as_many : length ss ≡ n
  pub below : All (λ s. s < m) ss

-- the number of a word among all words of its length
abbrev pub number : ℕ → List ℕ → ℕ
number m [] = 0
number m (s ∷ ss) = s * m ^ length ss + number m ss

-- the stride of each of n cells: how much the number of a word rises if the cell's symbol rises by 1
abbrev pub strides_of : ℕ → ℕ → List ℕ
strides_of m zero = []
strides_of m (suc n) = m ^ n ∷ strides_of m n

-- the symbols of the word with the number `at`, computed from the strides of the cells
abbrev pub digits : ℕ → List ℕ → ℕ → List ℕ
digits m ds at = map (λ d. at / d % m) ds

-- the strides of the cells that a pattern leaves out
abbrev pub open_strides : ℕ → List (Option ℕ) → List ℕ
open_strides m [] = []
open_strides m (None ∷ ps) = m ^ length ps ∷ open_strides m ps
open_strides m (Some s ∷ ps) = open_strides m ps

-- the number of the word that agrees with a pattern and has 0 at each cell that the pattern leaves out
abbrev pub least_number : ℕ → List (Option ℕ) → ℕ
least_number m [] = 0
least_number m (None ∷ ps) = least_number m ps
least_number m (Some s ∷ ps) = s * m ^ length ps + least_number m ps

-- how much the number of a word rises if the symbols of the cells with these strides rise from 0 to the greatest, m - 1
abbrev pub reach : ℕ → List ℕ → ℕ
reach m [] = 0
reach m (d ∷ ds) = (m - 1) * d + reach m ds

-- each symbol that the pattern keeps is among the first m
abbrev pub KeepsBelow : ℕ → List (Option ℕ) → Type 0
KeepsBelow m ps = All (λ p. IfSome p (λ s. s < m)) ps
