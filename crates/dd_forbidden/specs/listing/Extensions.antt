-- The fillings that begin with given symbols: the breaking ones, and all those with allowed symbols.
use Rattle.std.specs.Prelude.{ℕ, ◌<◌, cond, List, [], ◌∷◌, ◌++◌, All}
use Rattle.std.specs.List.{flat_map, range_with_len}
use Rattle.dd_lattice.specs.declared.position.Cell.{Cell}
use Rattle.dd_formula.specs.LocalRule.{LocalRule, rule_allows}
use Rattle.dd_forbidden.specs.Breaking.{is_true_at_origin}

-- each number in the list is a symbol of the alphabet
abbrev pub AreSymbols : LocalRule → List ℕ → Type 0
AreSymbols r ss = All (λ s. s < r.symbols) ss

-- each cell has one of the rule's nodes
abbrev pub AreOf : LocalRule → List Cell → Type 0
AreOf r cs = All (λ c. c.node < r.nodes) cs

-- the breaking fillings that begin with the allowed symbols ss, in lexicographic order; the cells in the list have no symbol yet
abbrev pub extensions : LocalRule → ℕ → List Cell → List ℕ → List (List ℕ)
extensions r a [] ss = cond (is_true_at_origin r a ss) [] (ss ∷ [])
extensions r a (c ∷ cs) ss = flat_map (λ s. cond (rule_allows r c.node s) (extensions r a cs (ss ++ s ∷ [])) []) (range_with_len 0 r.symbols)

-- all fillings that begin with ss and give allowed symbols to the cells in the list, whether the rule is true under them or not
abbrev pub completions : LocalRule → List Cell → List ℕ → List (List ℕ)
completions r [] ss = ss ∷ []
completions r (c ∷ cs) ss = flat_map (λ s. cond (rule_allows r c.node s) (completions r cs (ss ++ s ∷ [])) []) (range_with_len 0 r.symbols)
