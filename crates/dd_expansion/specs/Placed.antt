-- Cells of Z^d: the coordinates past the d-th are 0.
use Rattle.std.specs.{Prelude.ℕ, Prelude.◌||◌, Prelude.◌&&◌, Prelude.Bool, Prelude.nat_lt, Prelude.pos, Ordering.int_eq}
use Rattle.dd_lattice.specs.{Place.Place, declared.position.Cell.Cell}
use Rattle.dd_topology.specs.Grid.{Grid}

-- a position of Z^d
abbrev pub is_flat : ℕ → Place → Bool
is_flat d p = (nat_lt 1 d || int_eq p.y (pos 0)) && (nat_lt 2 d || int_eq p.z (pos 0))

-- a cell of Z^d, whose node is less than the number of nodes
abbrev pub is_cell_in : ℕ → ℕ → Cell → Bool
is_cell_in d nodes c = is_flat d c.position && nat_lt c.node nodes

-- one of a topology's cells
abbrev pub is_placed : Grid → Cell → Bool
is_placed g c = is_cell_in g.dimension g.nodes c
