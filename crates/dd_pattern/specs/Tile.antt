-- Periodic configurations: the symbols of one fundamental box give every cell of Z^d its symbol.
use Rattle.std.specs.Prelude.{ℕ, ◌+◌, ◌*◌, ◌-◌, ◌<◌, ◌≤◌, ◌≡◌, ◌/◌, ◌%◌, List, None, cond, nat_lt, pos, ◌+ℤ◌, length, slice_get}
use Rattle.dd_lattice.specs.{Place.Place, Place.place, Cells.cell, Boxes.Bounds, Boxes.IsWithin, Boxes.index_in}
use Rattle.dd_lattice.specs.declared.position.Cell.{Cell}
use Rattle.dd_pattern.specs.declared.periods.Periods.{Periods}
use Rattle.dd_pattern.specs.Periods.{ArePeriodsIn, periods_volume, residue, unsheared, base_of}
use Rattle.dd_pattern.specs.Reading.{Look}

-- a tile: the dimension, the periods, the number of nodes, and the symbols of the fundamental box in cell order
pub record Tile : Type 0 where
  pub dimension : ℕ
  pub periods : Periods
  pub nodes : ℕ
  pub symbols : List ℕ

abbrev pub tile : ℕ → Periods → ℕ → List ℕ → Tile
tile dim periods nodes symbols = record { dimension = dim; periods = periods; nodes = nodes; symbols = symbols }

-- the tile defines a configuration
pub record IsTile (t : Tile) : Type 0 where
  pub some_dimension : 0 < t.dimension
  pub most_dimension : t.dimension ≤ 3
  pub periods : ArePeriodsIn t.dimension t.periods
  pub nodes_some : 0 < t.nodes
  pub full : length t.symbols ≡ periods_volume t.periods * t.nodes

-- the greatest number of symbols that the code allows in a fundamental box
abbrev pub most_symbols : ℕ
most_symbols = 65536

-- the tile defines a configuration that code can hold
pub record IsPeriodic (t : Tile) : Type 0 where
  pub tile : IsTile t
  pub small : length t.symbols ≤ most_symbols

-- the index of the cell's symbol in the list. Positions are listed by z, then y, then x, and the nodes of each position in order
abbrev pub tile_index : Tile → Cell → ℕ
tile_index t c =
    let p = t.periods in
    ((residue c.position.z p.z * p.y + residue c.position.y p.y) * p.x + residue (unsheared p c.position) p.x) * t.nodes + c.node

-- each cell has the symbol of the same node at the cell's position modulo the periods; a cell whose node isn't one of the tile's has no symbol
abbrev pub tile_look : Tile → Look
tile_look t c = cond (nat_lt c.node t.nodes) (slice_get t.symbols (tile_index t c)) None

-- the cell is in the fundamental box: its position is its own base, and the tile has its node
pub record IsInBox (t : Tile) (c : Cell) : Type 0 where
  pub base : base_of t.periods c.position ≡ c.position
  pub node : c.node < t.nodes

-- the cell of the fundamental box whose symbol has the index i in the list
abbrev pub cell_in : Tile → ℕ → Cell
cell_in t i =
    let p = t.periods in
    let k = i / t.nodes in
    cell (place (pos (k % p.x)) (pos (k / p.x % p.y)) (pos (k / p.x / p.y))) (i % t.nodes)

-- the bounds of the fundamental box: on each axis the coordinates run from 0 to the period minus 1
abbrev pub fundamental : Periods → Bounds
fundamental p = record { low = place (pos 0) (pos 0) (pos 0); high = place (pos (p.x - 1)) (pos (p.y - 1)) (pos (p.z - 1)) }

-- how many times each of the three period vectors is added
pub record Times : Type 0 where
  pub first : ℕ
  pub second : ℕ
  pub third : ℕ

-- the position v after each period vector has been added as many times as n says
abbrev pub with_vectors : Periods → Times → Place → Place
with_vectors p n v = place (v.x +ℤ pos (n.first * p.x + n.second * p.shear)) (v.y +ℤ pos (n.second * p.y)) (v.z +ℤ pos (n.third * p.z))

-- the two positions differ by an integer combination of the three period vectors
pub record IsCongruent (p : Periods) (v w : Place) : Type 0 where
  pub times : Times
  pub times' : Times
  pub is : with_vectors p times v ≡ with_vectors p times' w

-- the configuration is read modulo the periods. Each position of Z^d is congruent to its base, which lies in the fundamental box. A cell has the same
-- symbol as the cell with the same node at the base. In the fundamental box the symbols are in cell order
pub record IsReadModulo (t : Tile) : Type 0 where
  pub congruent : (v : Place) → IsCongruent t.periods v (base_of t.periods v)
  pub in_box : (v : Place) → IsWithin (fundamental t.periods) (base_of t.periods v)
  pub at_base : (c : Cell) → tile_look t c ≡ tile_look t (cell (base_of t.periods c.position) c.node)
  pub in_order : (v : Place) (a : ℕ) → IsWithin (fundamental t.periods) v → a < t.nodes →
      tile_look t (cell v a) ≡ slice_get t.symbols (index_in (fundamental t.periods) v * t.nodes + a)
