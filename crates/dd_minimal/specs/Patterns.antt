-- Patterns. A pattern has an entry for each cell that a rule reads, in cell order: the symbol that is kept, or none if the cell is left out.
use Rattle.std.specs.Prelude.{ℕ, zero, suc, ◌≡◌, ◌<◌, ◌&&◌, Bool, true, false, Option, Some, None, List, [], ◌∷◌, length, map, nat_eq}
use Rattle.std.specs.List.{list_any}
use Rattle.dd_pattern.specs.Filling.{Filled}
use Rattle.dd_formula.specs.LocalRule.{LocalRule, cells_at}
use Rattle.dd_minimal.specs.declared.partial.Partial.{Partial}

-- the symbol is the kept one, or none is kept
abbrev pub is_kept : Option ℕ → ℕ → Bool
is_kept None s = true
is_kept (Some t) s = nat_eq t s

-- there are as many symbols as entries, and each symbol equals the one that its entry keeps, if the entry keeps one
abbrev pub agrees : List (Option ℕ) → List ℕ → Bool
agrees [] [] = true
agrees [] (s ∷ ss) = false
agrees (p ∷ ps) [] = false
agrees (p ∷ ps) (s ∷ ss) = is_kept p s && agrees ps ss

-- the symbols agree with at least one of the patterns
abbrev pub is_covered : List (List (Option ℕ)) → List ℕ → Bool
is_covered ps ss = list_any (λ p. agrees p ss) ps

-- the pattern that leaves no cell out
abbrev pub whole : List ℕ → List (Option ℕ)
whole ss = map Some ss

-- the pattern with the cell at index k left out
abbrev pub left_out : ℕ → List (Option ℕ) → List (Option ℕ)
left_out k [] = []
left_out zero (p ∷ ps) = None ∷ ps
left_out (suc k) (p ∷ ps) = p ∷ left_out k ps

-- the pattern belongs to a node of the rule, and has an entry for each cell that is read there
pub record IsPartialOf (r : LocalRule) (p : Partial) : Type 0 where
  pub node : p.node < r.nodes
  pub as_many : length p.symbols ≡ length (cells_at r p.node)

-- the filling's domain is the cells that the rule reads at the pattern's node
abbrev pub FillsReads : LocalRule → Partial → Filled → Type 0
FillsReads r p f = f.cells ≡ cells_at r p.node

-- the entries of the pattern
abbrev pub pattern_of : Partial → List (Option ℕ)
pattern_of p = p.symbols
