-- Occurrence lists of literals: chains of links in one list.
use Rattle.std.specs.Prelude.{◌≡◌, ℕ, zero, suc, ◌*◌, ◌≤◌, ◌<◌, List, [], ◌∷◌, Some, slice_get, slice_index_or, length, All}
use Rattle.std.specs.Option.{option_map_or}
use Rattle.dd_clause.specs.declared.clause.Literal.{Literal}
use Rattle.dd_engines.specs.{declared.chains.Link.Link, declared.chains.Chains.Chains, walking.Truths.place_of, walking.Truths.occurrences}

-- The clause numbers along a chain, over at most this many links. A chain is given by the number of its first link, counted from 1. The
-- number 0 stands for the empty chain.
abbrev pub along : ℕ → List Link → ℕ → List ℕ
along zero links at = []
along (suc most) links zero = []
along (suc most) links (suc at) = option_map_or (λ link. link.number ∷ along most links link.next) (slice_get links at) []

-- the clause numbers along a whole chain, if each link leads to an earlier one, or to none: the chain then has at most `at` links
abbrev pub chain_of : List Link → ℕ → List ℕ
chain_of links at = along at links at

-- each link leads to an earlier one, or to none
abbrev pub AreLinked : List Link → Type 0
AreLinked links = (k : ℕ) (link : Link) → slice_get links k ≡ Some link → link.next ≤ k

-- each link leads to an earlier one, or to none, and each chain is empty or begins at one of the links
pub record IsLinked (chains : Chains) : Type 0 where
  pub back : AreLinked chains.links.items
  pub firsts : All (λ at. at ≤ length chains.links.items) chains.firsts.items

-- the literal's variable is in range, so there is a place for the literal's chain
abbrev pub HasChain : Chains → Literal → Type 0
HasChain chains l = (1 ≤ l.variable) × (place_of l < length chains.firsts.items)

-- the clause numbers along a literal's chain
abbrev pub numbers_of : Chains → Literal → List ℕ
numbers_of chains l = chain_of chains.links.items (slice_index_or chains.firsts.items (place_of l) 0)

-- each literal's chain lists the clauses that contain the literal, each as often as the clause contains it; the clauses are numbered from `first` on
abbrev pub AreChained : Chains → ℕ → List (List Literal) → Type 0
AreChained chains first clauses = (l : Literal) → HasChain chains l → numbers_of chains l ≡ occurrences l first clauses

-- there is a chain for each literal of this many variables, and the chains list the clauses
pub record IsListingOf (chains : Chains) (variables : ℕ) (clauses : List (List Literal)) : Type 0 where
  pub long : length chains.firsts.items ≡ 2 * variables
  pub linked : IsLinked chains
  pub chained : AreChained chains 0 clauses
