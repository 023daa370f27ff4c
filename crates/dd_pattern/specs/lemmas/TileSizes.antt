-- Bounds on the numbers in a tile, and on the index of a cell's symbol in the list of symbols.
use Rattle.std.proofs.{Common.ℕ, Common.◌+◌, Common.◌*◌, Common.◌<◌, Common.◌≤◌, Common.length, Common.arith, lemmas.Nat.mul-add-lt}
use Rattle.dd_lattice.specs.declared.position.Cell.{Cell}
use Rattle.dd_pattern.specs.declared.periods.Periods.{Periods}
use Rattle.dd_pattern.specs.Periods.{ArePeriodsIn, periods_volume, residue, unsheared}
use Rattle.dd_pattern.specs.Tile.{Tile, IsTile, IsPeriodic, tile_index}
use Rattle.dd_pattern.specs.lemmas.Residues.{le-self_mul, residue_below}

pub below_table : (a w b h : ℕ) → a < h → b < w → a * w + b < h * w
below_table a w b h p q = omega (arith, mul-add-lt a w b h p q)

le-mul_self : (a n : ℕ) → 0 < n → a ≤ n * a
le-mul_self a n h = omega (arith, le-self_mul a n h)

pub record Sizes (t : Tile) : Type 0 where
  pub total : periods_volume t.periods * t.nodes ≤ 65536
  pub places : periods_volume t.periods ≤ 65536
  pub rows : t.periods.z * t.periods.y ≤ 65536
  pub x_small : t.periods.x ≤ 65536
  pub y_small : t.periods.y ≤ 65536
  pub z_small : t.periods.z ≤ 65536
  pub shear_small : t.periods.shear ≤ 65536
  pub rows_some : 0 < t.periods.z * t.periods.y

pub sizes_of : (t : Tile) → IsPeriodic t → Sizes t
sizes_of t kept =
    let ok : IsTile t = kept.tile in
    let p = t.periods in
    let all : p.z * p.y * p.x * t.nodes ≤ 65536 = rw (← ok.full) kept.small in
    let a = le-self_mul (p.z * p.y * p.x) t.nodes ok.nodes_some in
    let b = le-self_mul (p.z * p.y) p.x ok.periods.x_some in
    let c = le-self_mul p.z p.y ok.periods.y_some in
    let d = le-mul_self p.y p.z ok.periods.z_some in
    let some : 0 < p.z * p.y = omega (arith, ok.periods.z_some, ok.periods.y_some, c) in
    let e = le-mul_self p.x (p.z * p.y) some in
    let less = ok.periods.shear_small in
    record {
      total = all;
      places = omega arith;
      rows = omega arith;
      x_small = omega arith;
      y_small = omega arith;
      z_small = omega arith;
      shear_small = omega arith;
      rows_some = some;
    }

pub row_below : (d : ℕ) (p : Periods) → ArePeriodsIn d p → (c : Cell) → residue c.position.z p.z * p.y + residue c.position.y p.y < p.z * p.y
row_below d p ok c = below_table _ _ _ _ (residue_below c.position.z _ ok.z_some) (residue_below c.position.y _ ok.y_some)

pub place_below : (d : ℕ) (p : Periods) → ArePeriodsIn d p → (c : Cell) →
    (residue c.position.z p.z * p.y + residue c.position.y p.y) * p.x + residue (unsheared p c.position) p.x < periods_volume p
place_below d p ok c = below_table _ _ _ _ (row_below d p ok c) (residue_below (unsheared p c.position) _ ok.x_some)

pub index_below : (t : Tile) → IsTile t → (c : Cell) → c.node < t.nodes → tile_index t c < length t.symbols
index_below t ok c h = rw ok.full (below_table _ _ _ _ (place_below t.dimension t.periods ok.periods c) h)
