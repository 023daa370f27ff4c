-- The breaking fillings of a rule at a node. A breaking filling gives allowed symbols to the cells that the rule reads there, and the rule is false
-- under these symbols.
use Rattle.std.specs.Prelude.{ℕ, ◌≡◌, ◌&&◌, nat_lt, Bool, true, false, List, [], ◌∷◌, map}
use Rattle.std.specs.{List.Contains, List.Sorted.IsStrictlySortedBy, Ordering.nat_cmp, Cmp.Lexicographic.slice_cmp}
use Rattle.dd_lattice.specs.declared.position.Cell.{Cell}
use Rattle.dd_pattern.specs.Filling.{Filled, filled, filling_look}
use Rattle.dd_expansion.specs.Terms.{origin_at}
use Rattle.dd_formula.specs.LocalRule.{LocalRule, rule_allows, is_true, cells_at}
use Rattle.dd_counts.specs.Rules.{pattern_count, most_patterns}
use Rattle.dd_forbidden.specs.declared.fault.ForbiddenFault.{ForbiddenFault}
use Rattle.dd_forbidden.specs.declared.fault.ForbiddenFault.TheVariants.{Size, Memory}

-- each cell has a symbol that its node allows, and no symbol is left over
abbrev pub are_allowed : LocalRule → List Cell → List ℕ → Bool
are_allowed r [] [] = true
are_allowed r [] (s ∷ ss) = false
are_allowed r (c ∷ cs) [] = false
are_allowed r (c ∷ cs) (s ∷ ss) = rule_allows r c.node s && are_allowed r cs ss

-- whether the rule is true at this node of the origin, if the cells that it reads there have these symbols
abbrev pub is_true_at_origin : LocalRule → ℕ → List ℕ → Bool
is_true_at_origin r a ss = is_true r (origin_at a) (filling_look (filled (cells_at r a) ss))

-- the cells that the rule reads at the node have more than `most_patterns` fillings over the whole alphabet
abbrev pub is_large : LocalRule → ℕ → Bool
is_large r a = nat_lt most_patterns (pattern_count r a)

-- ss are the symbols of a breaking filling
pub record IsBreaking (r : LocalRule) (a : ℕ) (ss : List ℕ) : Type 0 where
  pub allowed : are_allowed r (cells_at r a) ss ≡ true
  pub broken : is_true_at_origin r a ss ≡ false

-- the lists are the symbols of all breaking fillings, in lexicographic order, each once
pub record BreakingFillings (r : LocalRule) (a : ℕ) (lists : List (List ℕ)) : Type 0 where
  pub ascending : IsStrictlySortedBy (slice_cmp nat_cmp) lists
  pub only : (ss : List ℕ) → Contains lists ss → IsBreaking r a ss
  pub each : (ss : List ℕ) → IsBreaking r a ss → Contains lists ss

-- fs are all breaking fillings, in the lexicographic order of their symbols
pub record AreBreakingFillings (r : LocalRule) (a : ℕ) (fs : List Filled) : Type 0 where
  pub symbols : List (List ℕ)
  pub fillings : fs ≡ map (filled (cells_at r a)) symbols
  pub breaking : BreakingFillings r a symbols
  -- the number of all fillings of the cells over the whole alphabet is within the limit
  pub few : is_large r a ≡ false

-- which fault is right: `Size` if there are too many fillings, else `Memory`
abbrev pub IsListingFault : LocalRule → ℕ → ForbiddenFault → Type 0
IsListingFault r a Size = is_large r a ≡ true
IsListingFault r a Memory = is_large r a ≡ false
