-- Walks as lists of edges, and potentials and ranks over a list of edges.
use Rattle.std.specs.Prelude.{◌≡◌, ℕ, ◌+◌, ◌*◌, ◌<◌, ◌≤◌, List, [], ◌∷◌, length, slice_index_or}
use Rattle.std.specs.List.{Contains, All}
use Rattle.dd_meancycle.specs.declared.edges.Edge.{Edge}

-- the edges lead from u to v, one after the other
abbrev pub IsWalk : ℕ → List Edge → ℕ → Type 0
IsWalk u [] v = u ≡ v
IsWalk u (e ∷ es) v = (e.from ≡ u) × IsWalk e.to es v

-- each edge of the second list is in the first
abbrev pub AreAmong : List Edge → List Edge → Type 0
AreAmong edges [] = Unit {0}
AreAmong edges (e ∷ es) = Contains edges e × AreAmong edges es

abbrev pub edges_weight : List Edge → ℕ
edges_weight [] = 0
edges_weight (e ∷ es) = e.weight + edges_weight es

-- the potential of the state v, or its rank if ps lists ranks
abbrev pub natural_potential : List ℕ → ℕ → ℕ
natural_potential ps v = slice_index_or ps v 0

-- along each edge the potential rises by at most l * weight - m
abbrev pub AreEdgePotentials : List Edge → ℕ → ℕ → List ℕ → Type 0
AreEdgePotentials edges m l ps = (e : Edge) → Contains edges e → natural_potential ps e.to + m ≤ natural_potential ps e.from + l * e.weight

-- along each edge the rank falls
abbrev pub AreEdgeRanks : List Edge → List ℕ → Type 0
AreEdgeRanks edges ranks = (e : Edge) → Contains edges e → natural_potential ranks e.to < natural_potential ranks e.from
