-- Topologies: a dimension, nodes at each position, names of labels, and edges.
use Rattle.std.specs.Prelude.{◌≡◌, ◌≤◌, ℕ, ◌&&◌, Bool, true, cond, nat_lt, nat_le, unsigned_abs, List, Some, length, slice_get, take}
use Rattle.std.specs.List.{list_all, list_any}
use Rattle.dd_lattice.specs.Place.{Place}
use Rattle.dd_topology.specs.declared.{edge.Edge.Edge, fault.TopologyFault.TopologyFault}
use Rattle.dd_topology.specs.declared.fault.TopologyFault.TheVariants.{Twice, Memory}
use Rattle.dd_topology.specs.{Naming.AreDistinct, Topology.starts_alike, Topology.AreSingle}

-- a topology, as contracts see it. An edge gives its label and its nodes by their numbers
pub record Grid : Type 0 where
  pub dimension : ℕ
  pub nodes : ℕ
  pub labels : List (List ℕ)
  pub edges : List Edge

abbrev pub grid : ℕ → ℕ → List (List ℕ) → List Edge → Grid
grid d nodes labels edges = record { dimension = d; nodes = nodes; labels = labels; edges = edges }

-- how far an edge may lead along axis 0, 1 or 2 in dimension d: at most 4 along the first d axes, and not at all along the others
abbrev pub edge_reach : ℕ → ℕ → ℕ
edge_reach d axis = cond (nat_lt axis d) 4 0

abbrev pub is_offset : ℕ → Place → Bool
is_offset d p = nat_le (unsigned_abs p.x) (edge_reach d 0) && nat_le (unsigned_abs p.y) (edge_reach d 1) && nat_le (unsigned_abs p.z) (edge_reach d 2)

-- the edge fits a topology of dimension d with these numbers of nodes and labels
abbrev pub is_edge : ℕ → ℕ → ℕ → Edge → Bool
is_edge d nodes labels e = nat_lt e.label labels && nat_lt e.from nodes && nat_lt e.to nodes && is_offset d e.offset

abbrev pub are_edges : Grid → Bool
are_edges g = list_all (is_edge g.dimension g.nodes (length g.labels)) g.edges

-- what holds of every topology
pub record IsGrid (g : Grid) : Type 0 where
  pub dimension : (1 ≤ g.dimension) × (g.dimension ≤ 3)
  pub nodes : 1 ≤ g.nodes
  pub labels : AreDistinct g.labels
  pub edges : are_edges g ≡ true
  pub single : AreSingle g.edges

-- the edge at index `at` is the first that has the same label and first node as an earlier edge, and `label` is its label
pub record IsFirstTwice (edges : List Edge) (label : ℕ) : Type 0 where
  pub at : ℕ
  pub edge : Edge
  pub stands : slice_get edges at ≡ Some edge
  pub labelled : edge.label ≡ label
  pub repeats : list_any (starts_alike edge) (take at edges) ≡ true
  pub first : AreSingle (take at edges)

-- why no topology was made from the edges; `Memory` says nothing about the edges
abbrev pub IsTopologyFault : List Edge → TopologyFault → Type 0
IsTopologyFault edges (Twice label) = IsFirstTwice edges label
IsTopologyFault edges Memory = Unit {0}
