-- Adjacent cells and balls, as sets and as lists.
use Rattle.std.specs.Prelude.{◌≡◌, ◌⊎◌, ◌↔◌, ℕ, zero, suc, ◌==◌, ◌&&◌, ◌||◌, Bool, cond, List, [], ◌∷◌, ◌++◌, All, Contains}
use Rattle.std.specs.{List.flat_map, List.list_any, List.list_all, List.Sorted.IsStrictlySortedBy, Ordering.int_eq}
use Rattle.dd_lattice.specs.{Place.Place, Place.moved, Place.IsInRange, Place.is_in_range, Order.cell_cmp}
use Rattle.dd_lattice.specs.{Regions.LeavesRangeAt, Regions.IsFaultAt, declared.position.Cell.Cell}
use Rattle.dd_lattice.specs.declared.fault.LatticeFault.{LatticeFault}
use Rattle.dd_topology.specs.{declared.edge.Edge.Edge, Topology.Leads, Topology.end_of, Topology.start_of}

-- a set of cells
abbrev pub CellSet : Type 1
CellSet = Cell → Type 0

-- b is adjacent to a: some edge joins them, in either direction
abbrev pub IsAdjacent : List Edge → Cell → CellSet
IsAdjacent es a b = (e : Edge) × Contains es e × (Leads e a b ⊎ Leads e b a)

-- the ball of radius r round c: the cells that a path of at most r edges joins to c
abbrev pub IsInBall : List Edge → Cell → ℕ → CellSet
IsInBall es c zero d = d ≡ c
IsInBall es c (suc r) d = IsInBall es c r d ⊎ ((b : Cell) × IsInBall es c r b × IsAdjacent es b d)

-- `cells` lists exactly the cells of the set, each once, in cell order, and all are in range
pub record IsCellListOf (S : CellSet) (cells : List Cell) : Type 0 where
  pub ascending : IsStrictlySortedBy cell_cmp cells
  pub in_range : All (λ c. IsInRange c.position) cells
  pub members : (c : Cell) → Contains cells c ↔ S c

-- some cell of the set is out of range
abbrev pub CellsLeaveRange : CellSet → Type 0
CellsLeaveRange S = LeavesRangeAt (λ (c : Cell). c.position) S

-- why the set was not listed: `Range` only if some cell of it is out of range
abbrev pub IsCellFaultOf : CellSet → LatticeFault → Type 0
IsCellFaultOf S = IsFaultAt (λ (c : Cell). c.position) S

-- whether two positions are the same
abbrev pub same_place : Place → Place → Bool
same_place p q = int_eq p.x q.x && int_eq p.y q.y && int_eq p.z q.z

-- whether the edge leads from a to b: this test decides `Leads`
abbrev pub leads : Edge → Cell → Cell → Bool
leads e a b = e.from == a.node && e.to == b.node && same_place (moved a.position e.offset) b.position

-- whether b is adjacent to a: this test decides `IsAdjacent`
abbrev pub is_adjacent : List Edge → Cell → Cell → Bool
is_adjacent es a b = list_any (λ e. leads e a b || leads e b a) es

-- the cell to which the edge leads from c, if c belongs to the edge's first node; otherwise no cell
abbrev pub edge_ends : Cell → Edge → List Cell
edge_ends c e = cond (e.from == c.node) (end_of c e ∷ []) []

-- the cell from which the edge leads to c, if c belongs to the edge's second node; otherwise no cell
abbrev pub edge_starts : Cell → Edge → List Cell
edge_starts c e = cond (e.to == c.node) (start_of c e ∷ []) []

-- the cells that the edge joins to c
abbrev pub beside : Cell → Edge → List Cell
beside c e = edge_ends c e ++ edge_starts c e

-- the cells adjacent to c, with repeats
abbrev pub neighbours : List Edge → Cell → List Cell
neighbours es c = flat_map (beside c) es

-- the ball as a list, with repeats
abbrev pub ball : List Edge → Cell → ℕ → List Cell
ball es c zero = c ∷ []
ball es c (suc r) = ball es c r ++ flat_map (neighbours es) (ball es c r)

abbrev pub are_in_range : List Cell → Bool
are_in_range cells = list_all (λ c. is_in_range c.position) cells
