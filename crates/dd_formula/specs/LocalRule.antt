-- Local rules. A rule is a formula over a topology and an alphabet. Each node allows some symbols of the alphabet. The rule is evaluated under a
-- look-up (`Look`), which gives symbols to cells, perhaps not to all.
use Rattle.std.specs.Prelude.{ℕ, zero, suc, Bool, ◌<◌, ◌≤◌, ◌≡◌, true, false, is_some, nat_le, nat_lt, List, [], ◌∷◌, ◌++◌}
use Rattle.std.specs.List.{list_all}
use Rattle.dd_lattice.specs.{InOrder.in_order, declared.position.Cell.Cell}
use Rattle.dd_topology.specs.{declared.edge.Edge.Edge, Grid.Grid, Topology.extent}
use Rattle.dd_topology.specs.Sets.{SymbolSets, symbol_sets, row_allows, IsSets}
use Rattle.dd_pattern.specs.Reading.{Look}
use Rattle.dd_expansion.specs.{declared.formulas.Formula.Formula, declared.expanded.Expanded.Expanded, Terms.origin_at, Truth.truth}
use Rattle.dd_expansion.specs.{Reads.reads, Expansion.expansion, Leaves.leaves_pass, Leaves.instances, Leaves.seen, Placed.is_cell_in}

pub record LocalRule : Type 0 where
  pub dimension : ℕ
  pub nodes : ℕ
  -- the size of the alphabet
  pub symbols : ℕ
  -- for each node, whether it allows the symbol 0, the symbol 1 and so on
  pub allowed : List (List Bool)
  pub edges : List Edge
  pub formula : Formula

-- the rule with these fields
abbrev pub kept_rule : ℕ → ℕ → SymbolSets → List Edge → Formula → LocalRule
kept_rule d nodes s edges f = record { dimension = d; nodes = nodes; symbols = s.symbols; allowed = s.allowed; edges = edges; formula = f }

-- the rule with this formula over this topology; the sets say which symbols of the alphabet each node allows
abbrev pub local_rule : Grid → SymbolSets → Formula → LocalRule
local_rule g s f = kept_rule g.dimension g.nodes s g.edges f

-- the alphabet of a rule, and the symbols that each node allows
abbrev pub sets_of : LocalRule → SymbolSets
sets_of r = symbol_sets r.symbols r.allowed

-- whether the node allows the symbol
abbrev pub rule_allows : LocalRule → ℕ → ℕ → Bool
rule_allows r a s = row_allows r.allowed a s

-- whether the rule's formula is true at a cell, under the symbols that the look-up gives
abbrev pub is_true : LocalRule → Cell → Look → Bool
is_true r c look = truth r.edges r.formula (c ∷ []) look

-- the cells that the rule reads at a node of the origin: those whose symbols it looks up. Some may occur more than once
abbrev pub reads_at : LocalRule → ℕ → List Cell
reads_at r a = reads r.edges r.formula (origin_at a ∷ [])

-- each cell that the rule reads, when it is evaluated at the cell c, lies in the range of positions and has a symbol
abbrev pub is_given : LocalRule → Cell → Look → Bool
is_given r c look = list_all (λ d. is_some (seen look c.position d)) (reads_at r c.node)

-- the rule's expansion at a node: its formula at this node of the origin, without variables
abbrev pub expansion_at : LocalRule → ℕ → Expanded
expansion_at r a = expansion r.edges r.symbols r.formula (origin_at a ∷ [])

-- the values of a function at the first n nodes
abbrev pub at_nodes : {X : Type 0} → (ℕ → X) → ℕ → List X
at_nodes f zero = []
at_nodes f (suc n) = at_nodes f n ++ f n ∷ []

-- the cells that the rule reads at a node, in cell order, each once
abbrev pub cells_at : LocalRule → ℕ → List Cell
cells_at r a = in_order (reads_at r a)

-- the limit on instances: at each node, rules and automata have at most this many
abbrev pub most_instances : ℕ
most_instances = 20000

-- the limit on reach: each cell that rules and automata read at the origin lies at most this far away, along each axis
abbrev pub most_reach : ℕ
most_reach = 16

-- the limit on depth: compositions are nested at most this deep
abbrev pub most_depth : ℕ
most_depth = 64

-- the cell lies within the limit on reach
abbrev pub is_near : Cell → Bool
is_near c = nat_le (extent c.position) most_reach

-- the cell has a position of the rule's dimension, and one of the rule's nodes
abbrev pub is_of : LocalRule → Cell → Bool
is_of r c = is_cell_in r.dimension r.nodes c

-- the rule is within the limit on instances at each node
abbrev pub IsSmall : LocalRule → Type 0
IsSmall r = (a : ℕ) → a < r.nodes → instances (expansion_at r a) ≤ most_instances

-- the rule is within the limit on reach at each node
abbrev pub ReadsNear : LocalRule → Type 0
ReadsNear r = (a : ℕ) → a < r.nodes → list_all is_near (reads_at r a) ≡ true

-- a well-formed rule: what holds of every `Rule`, as contracts see it
pub record IsRule (r : LocalRule) : Type 0 where
  pub dimension : (1 ≤ r.dimension) × (r.dimension ≤ 3)
  pub nodes : (1 ≤ r.nodes) × (r.nodes ≤ 4)
  pub symbols : (1 ≤ r.symbols) × (r.symbols ≤ 16)
  pub allowed : IsSets r.nodes (sets_of r)
  pub small : IsSmall r
  pub short : ReadsNear r
  -- each cell that the rule reads has a position in Z^d and one of the rule's nodes
  pub placed : (a : ℕ) → a < r.nodes → list_all (is_of r) (reads_at r a) ≡ true
  -- each leaf of the rule's expansions has a symbol of the alphabet
  pub known : (a : ℕ) → a < r.nodes → leaves_pass (λ c s. nat_lt s r.symbols) (expansion_at r a) ≡ true

-- a well-formed rule, with its expansion and the cells that it reads at each node
pub record IsExpanded (r : LocalRule) (es : List Expanded) (cells : List (List Cell)) : Type 0 where
  pub rule : IsRule r
  pub expansions : es ≡ at_nodes (expansion_at r) r.nodes
  pub reads : cells ≡ at_nodes (cells_at r) r.nodes

-- at some node the rule has too many instances
pub record IsLarge (r : LocalRule) : Type 0 where
  pub node : ℕ
  pub exists : node < r.nodes
  pub many : most_instances < instances (expansion_at r node)

-- at some node the rule reads a cell that lies too far away
pub record IsFar (r : LocalRule) : Type 0 where
  pub node : ℕ
  pub exists : node < r.nodes
  pub far : list_all is_near (reads_at r node) ≡ false
