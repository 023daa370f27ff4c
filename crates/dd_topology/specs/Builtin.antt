-- The built-in topologies.
use Rattle.std.specs.Prelude.{ℕ, Bool, false, ◌||◌, ℤ, pos, negsuc, List, [], ◌∷◌, ◌++◌, codes}
use Rattle.std.specs.List.{list_any}
use Rattle.dd_lattice.specs.Place.{Place, place}
use Rattle.dd_topology.specs.declared.{edge.Edge.Edge, builtin.Kind.Kind}
use Rattle.dd_topology.specs.declared.builtin.Kind.TheVariants.{Line, Square, King, Triangle, Hex, Cube}
use Rattle.dd_topology.specs.Grid.{Grid, grid}

-- whether, by the test `same`, some element of the list is the same as a later one
abbrev pub has_repeat : {X : Type 0} → (X → X → Bool) → List X → Bool
has_repeat same [] = false
has_repeat same (x ∷ xs) = list_any (same x) xs || has_repeat same xs

-- an edge from node 0 to node 0
abbrev pub link : ℕ → Place → Edge
link label offset = record { label = label; from = 0; offset = offset; to = 0 }

-- an edge from node 0 to node 1
abbrev pub forth : ℕ → Place → Edge
forth label offset = record { label = label; from = 0; offset = offset; to = 1 }

-- an edge from node 1 to node 0
abbrev pub back : ℕ → Place → Edge
back label offset = record { label = label; from = 1; offset = offset; to = 0 }

abbrev pub one : ℤ
one = pos 1

abbrev pub minus_one : ℤ
minus_one = negsuc 0

-- an offset in the plane
abbrev pub flat : ℤ → ℤ → Place
flat x y = place x y (pos 0)

abbrev pub line : Grid
line = grid 1 1 (codes "rt" ∷ codes "lt" ∷ []) (link 0 (flat one (pos 0)) ∷ link 1 (flat minus_one (pos 0)) ∷ [])

abbrev pub square_labels : List (List ℕ)
square_labels = codes "up" ∷ codes "dn" ∷ codes "rt" ∷ codes "lt" ∷ []

abbrev pub square_edges : List Edge
square_edges = link 0 (flat (pos 0) one) ∷ link 1 (flat (pos 0) minus_one) ∷ link 2 (flat one (pos 0)) ∷ link 3 (flat minus_one (pos 0)) ∷ []

abbrev pub square : Grid
square = grid 2 1 square_labels square_edges

abbrev pub king : Grid
king =
    grid 2 1 (square_labels ++ (codes "ne" ∷ codes "nw" ∷ codes "se" ∷ codes "sw" ∷ []))
    (square_edges ++ (link 4 (flat one one) ∷ link 5 (flat minus_one one) ∷ link 6 (flat one minus_one) ∷ link 7 (flat minus_one minus_one) ∷ []))

abbrev pub triangle : Grid
triangle = grid 2 1 (square_labels ++ (codes "ne" ∷ codes "sw" ∷ [])) (square_edges ++ (link 4 (flat one one) ∷ link 5 (flat minus_one minus_one) ∷ []))

abbrev pub hex : Grid
hex =
    grid 2 2 (codes "a" ∷ codes "b" ∷ codes "c" ∷ [])
    (
    forth 0 (flat (pos 0) (pos 0))
    ∷ back 0 (flat (pos 0) (pos 0))
    ∷ forth 1 (flat minus_one (pos 0))
    ∷ back 1 (flat one (pos 0))
    ∷ forth 2 (flat (pos 0) minus_one)
    ∷ back 2 (flat (pos 0) one)
    ∷ []
    )

abbrev pub cube : Grid
cube =
    grid 3 1 (codes "rt" ∷ codes "lt" ∷ codes "up" ∷ codes "dn" ∷ codes "fw" ∷ codes "bk" ∷ [])
    (
    link 0 (flat one (pos 0))
    ∷ link 1 (flat minus_one (pos 0))
    ∷ link 2 (flat (pos 0) one)
    ∷ link 3 (flat (pos 0) minus_one)
    ∷ link 4 (place (pos 0) (pos 0) one)
    ∷ link 5 (place (pos 0) (pos 0) minus_one)
    ∷ []
    )

abbrev pub grid_of : Kind → Grid
grid_of Line = line
grid_of Square = square
grid_of King = king
grid_of Triangle = triangle
grid_of Hex = hex
grid_of Cube = cube
