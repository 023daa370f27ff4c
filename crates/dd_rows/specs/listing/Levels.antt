-- The levels of the search for admissible fillings. Level k has the admissible fillings of the first k cells. A cell's number
-- is its index in the list of cells, or the length of the list if the cell isn't there.
use Rattle.std.specs.Prelude.{ℕ, ◌<◌, ◌≡◌, Bool, not, cond, ◌||◌, List, [], ◌∷◌, ◌++◌, map, filter, length, All}
use Rattle.std.specs.{Bool.nat_eq, List.range_with_len, List.list_all}
use Rattle.dd_lattice.specs.{Cells.shifted, Place.IsInRange, declared.position.Cell.Cell}
use Rattle.dd_expansion.specs.Limits.{greatest}
use Rattle.dd_pattern.specs.Reading.{Look}
use Rattle.dd_formula.specs.LocalRule.{LocalRule, is_true, is_given, cells_at, rule_allows}
pub use Rattle.dd_numbered.specs.Numbering.{rank}
use Rattle.dd_rows.specs.Fillings.{look_of}

-- each cell has one of the rule's nodes
abbrev pub AreOf : LocalRule → List Cell → Type 0
AreOf x cs = All (λ c. c.node < x.nodes) cs

-- the position of each cell is in range: each coordinate is at most 2^20 in absolute value
abbrev pub AreInRange : List Cell → Type 0
AreInRange cs = All (λ c. IsInRange c.position) cs

-- the greatest among the numbers of the cell c and of the cells that the rule reads there
abbrev pub last_number : LocalRule → List Cell → Cell → ℕ
last_number x cs c = greatest (rank cs c ∷ map (λ d. rank cs (shifted c.position d)) (cells_at x c.node))

-- the cells at which the rule can first be tested once the cell with the number k has a symbol
abbrev pub settled : LocalRule → List Cell → ℕ → List Cell
settled x cs k = filter (λ c. nat_eq (last_number x cs c) k) cs

-- the cells to which the list of numbers gives the number k
abbrev pub chosen : List ℕ → List Cell → ℕ → List Cell
chosen [] cs k = []
chosen (n ∷ ns) [] k = []
chosen (n ∷ ns) (c ∷ cs) k = cond (nat_eq n k) (c ∷ chosen ns cs k) (chosen ns cs k)

-- Whether the rule is true at the cell, or isn't given there. It is given if each cell that it reads there is in range and has
-- a symbol.
abbrev pub is_true_if_given : LocalRule → Look → Cell → Bool
is_true_if_given x look c = not (is_given x c look) || is_true x c look

-- whether, with the symbols ss of the cells cs, the rule is true at each of the places where the rule is given
abbrev pub are_true : LocalRule → List Cell → List Cell → List ℕ → Bool
are_true x cs places ss = list_all (is_true_if_given x (look_of cs ss)) places

-- ss with one more symbol at its end, for each symbol below n that the node a allows and with which the list passes the test
abbrev pub extended_below : LocalRule → (List ℕ → Bool) → ℕ → List ℕ → ℕ → List (List ℕ)
extended_below x test a ss n = filter test (map (λ s. ss ++ s ∷ []) (filter (rule_allows x a) (range_with_len 0 n)))

-- ss with one more symbol at its end, for each symbol of the alphabet that the node a allows and with which the list passes the test
abbrev pub extended : LocalRule → (List ℕ → Bool) → ℕ → List ℕ → List (List ℕ)
extended x test a ss = extended_below x test a ss x.symbols

-- a list of n symbols of the alphabet
pub record IsWord (x : LocalRule) (n : ℕ) (ss : List ℕ) : Type 0 where
  pub size : length ss ≡ n
  pub below : All (λ s. s < x.symbols) ss

abbrev pub AreWords : LocalRule → ℕ → List (List ℕ) → Type 0
AreWords x n lists = All (IsWord x n) lists
