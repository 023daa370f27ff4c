-- The patterns that a rule forbids, and its minimal lists, as answers list them.
use Rattle.std.specs.{Prelude.ℕ, Prelude.Option, Prelude.List, Prelude.map, Prelude.nat_eq, List.filter}
use Rattle.dd_formula.specs.LocalRule.{LocalRule}
use Rattle.dd_forbidden.specs.Breaking.{BreakingFillings}
use Rattle.dd_minimal.specs.Minimal.{IsMinimalList}
use Rattle.dd_certificate.specs.declared.answer.{Listed.Listed, Starred.Starred}
use Rattle.dd_evidence.specs.NodeLists.{IsListTo}

-- a pattern: the node, and the symbols of the cells that the rule reads there, in cell order (by z, then y, then x, then node)
abbrev pub listed : ℕ → List ℕ → Listed
listed a ss = record { node = a; symbols = ss }

-- a pattern that may leave cells out: it has a star, None, for each cell that it leaves out
abbrev pub starred : ℕ → List (Option ℕ) → Starred
starred a p = record { node = a; symbols = p }

-- node by node, all fillings that break the rule, in lexicographic order
abbrev pub IsForbiddenList : LocalRule → List Listed → Type 0
IsForbiddenList x patterns = IsListTo (BreakingFillings x) listed x.nodes patterns

-- node by node, the patterns of the minimal list, in its order
abbrev pub IsStarredList : LocalRule → List Starred → Type 0
IsStarredList x patterns = IsListTo (IsMinimalList x) starred x.nodes patterns

-- the patterns of the node a, as lists of symbols and stars without the node's number
abbrev pub patterns_at : ℕ → List Starred → List (List (Option ℕ))
patterns_at a patterns = map (λ (p : Starred). p.symbols) (filter (λ (p : Starred). nat_eq p.node a) patterns)
