-- Configurations as functions on all cells of Z^d. Also what it takes for an answer to exclude a goal from them, and what it
-- takes for an answer to show that two automata are inverse maps on them.
use Rattle.std.specs.Prelude.{ℕ, ◌≡◌, ◌+◌, ◌%◌, true, pos, cond, unsigned_abs, slice_index}
use Rattle.dd_lattice.specs.{Place.Place, Place.place, declared.position.Cell.Cell}
use Rattle.dd_topology.specs.Balls.{same_place}
use Rattle.dd_pattern.specs.Tile.{Tile, tile_index}
use Rattle.dd_expansion.specs.Placed.{is_flat}
use Rattle.dd_certificate.specs.declared.answer.Answer.{Answer}
use Rattle.dd_script.specs.Parts.{Parts}
use Rattle.dd_checker.specs.{Certificates.HasQuery, Certificates.IsCertificate, Lifted.is_yes, Lifted.IsWhole}
use Rattle.dd_checker.specs.Inverses.{is_conjugate, IsConjugacyAt}

-- 1 at the origin, and 0 at all other positions
abbrev pub spike : Cell → ℕ
spike c = cond (same_place c.position (place (pos 0) (pos 0) (pos 0))) 1 0

-- 1 at an odd number of steps from the origin, and 0 at all other positions
abbrev pub checkerboard : Cell → ℕ
checkerboard c = (unsigned_abs c.position.x + unsigned_abs c.position.y + unsigned_abs c.position.z) % 2

-- the periodic configuration that a tile stands for: the symbols of its fundamental box, repeated with its periods and its shear
abbrev pub tiled : Tile → Cell → ℕ
tiled t c = slice_index t.symbols (tile_index t c)

-- the script has one node at each position, and this node allows all symbols of the spike and of the checkerboard
pub record IsForBoth (s : Parts) : Type 0 where
  pub spike : IsWhole s 1 spike
  pub checkerboard : IsWhole s 1 checkerboard

-- The script has a query with this number, counted from 1. The answer is YES. It is a certificate for the query, and an output can hold it. v is a
-- position of Z^d.
pub record IsExclusion (s : Parts) (number : ℕ) (a : Answer) (v : Place) : Type 0 where
  pub query : HasQuery s number
  pub position : is_flat s.known.setting.topology.dimension v ≡ true
  pub yes : is_yes a ≡ true
  pub certificate : IsCertificate s number a

-- The script has a query with this number, counted from 1, and it asks about a conjugacy. The answer is CONJUGATE. It is a certificate for the query,
-- and an output can hold it. v is a position of Z^d.
pub record IsInversion (s : Parts) (number : ℕ) (a : Answer) (v : Place) : Type 0 where
  pub query : HasQuery s number
  pub conjugacy : IsConjugacyAt s number
  pub position : is_flat s.known.setting.topology.dimension v ≡ true
  pub conjugate : is_conjugate a ≡ true
  pub certificate : IsCertificate s number a
