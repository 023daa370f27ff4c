-- What a rule reads at the cells of a fundamental box, for a periodic configuration that fits the rule: cells in the range of positions, each with a
-- symbol of the alphabet. The box has at most 65,536 symbols, the most that a `Periodic` can have. At the end, bounds on the symbols that
-- configurations and fillings give.
use Rattle.std.proofs.Common.{◌≡◌, ℕ, ◌<◌, ◌≤◌, true, List, [], ◌∷◌, pos, unsigned_abs, refl, ap, arith}
use Rattle.std.proofs.lemmas.Int.{ints}
use Rattle.std.proofs.lemmas.Bool.{and_parts, and_from, leb-true, ltb-true, lt-ltb, cond_both}
use Rattle.std.specs.Prelude.{is_some, nat_lt, slice_get, IfSome, None}
use Rattle.std.specs.{List.list_all, List.All, List.position_or_len, Ordering.is_eq}
use Rattle.dd_lattice.specs.{Place.Place, Place.moved, Place.IsCoordinateInRange, Place.is_in_range, Place.most_coordinate, Cells.shifted}
use Rattle.dd_lattice.specs.{declared.position.Cell.Cell, Order.cell_cmp, lemmas.RangeLaws.test_from_in_range}
use Rattle.dd_topology.specs.{Topology.extent, lemmas.ExtentLaws.extent_moved}
use Rattle.dd_pattern.specs.{Reading.HasSymbolsBelow, Filling.Filled, Filling.filling_look, Periods.residue, Periods.unsheared}
use Rattle.dd_pattern.specs.Tile.{Tile, IsTile, IsPeriodic, IsInBox, tile_index, tile_look}
use Rattle.dd_pattern.specs.lemmas.{Residues.residue_below, TileSizes.sizes_of, TileSizes.index_below}
use Rattle.dd_expansion.specs.{Placed.is_flat, Leaves.seen}
use Rattle.dd_formula.specs.LocalRule.{LocalRule, IsRule, is_near, is_of, reads_at, is_given}
use Rattle.dd_formula.specs.Living.{Fits}
use Rattle.dd_values.specs.lemmas.Lists.{below_at, some_within}

pub in_range : (p : Place) → extent p ≤ most_coordinate → is_in_range p ≡ true
in_range p h =
    let x : IsCoordinateInRange p.x = (omega (arith, ints), omega (arith, ints)) in
    let y : IsCoordinateInRange p.y = (omega (arith, ints), omega (arith, ints)) in
    let z : IsCoordinateInRange p.z = (omega (arith, ints), omega (arith, ints)) in
    test_from_in_range p (x, y, z)

box_extent : (t : Tile) → IsPeriodic t → (c : Cell) → IsInBox t c → extent c.position ≤ 65536
box_extent t kept c h =
    let ok : IsTile t = kept.tile in
    let sizes = sizes_of t kept in
    let x : pos (residue (unsheared t.periods c.position) t.periods.x) ≡ c.position.x = ap (λ p. p.x) h.base in
    let y : pos (residue c.position.y t.periods.y) ≡ c.position.y = ap (λ p. p.y) h.base in
    let z : pos (residue c.position.z t.periods.z) ≡ c.position.z = ap (λ p. p.z) h.base in
    let x_in = residue_below (unsheared t.periods c.position) t.periods.x ok.periods.x_some in
    let y_in = residue_below c.position.y t.periods.y ok.periods.y_some in
    let z_in = residue_below c.position.z t.periods.z ok.periods.z_some in
    let x_small : unsigned_abs c.position.x ≤ 65536 = omega (arith, ints, sizes.x_small) in
    let y_small : unsigned_abs c.position.y ≤ 65536 = omega (arith, ints, sizes.y_small) in
    let z_small : unsigned_abs c.position.z ≤ 65536 = omega (arith, ints, sizes.z_small) in
    omega (arith, x_small, y_small, z_small)

pub look_given : (t : Tile) → IsTile t → (d : Cell) → d.node < t.nodes → is_some (tile_look t d) ≡ true
look_given t ok d h = let there : nat_lt d.node t.nodes ≡ true = lt-ltb _ _ h in rw there (some_within t.symbols (tile_index t d) (index_below t ok d h))

pub read_given : (t : Tile) → IsPeriodic t → (c d : Cell) → IsInBox t c → extent d.position ≤ 16 → d.node < t.nodes → is_some (seen (tile_look t) c.position d) ≡ true
read_given t ok c d h close node =
    let small : extent (moved d.position c.position) ≤ most_coordinate = omega (arith, extent_moved d.position c.position, box_extent t ok c h) in
    let there : is_in_range (moved d.position c.position) ≡ true = in_range (moved d.position c.position) small in
    rw there (look_given t ok.tile (shifted c.position d) node)

all_given : (r : LocalRule) (t : Tile) → Fits r t → IsPeriodic t → (c : Cell) → IsInBox t c → (ds : List Cell) → list_all is_near ds ≡ true → list_all (is_of r) ds ≡ true →
    list_all (λ d. is_some (seen (tile_look t) c.position d)) ds ≡ true
all_given r t fits ok c h [] near placed = refl
all_given r t fits ok c h (d ∷ ds) near placed =
    let nears = and_parts (is_near d) (list_all is_near ds) near in
    let places = and_parts (is_of r d) (list_all (is_of r) ds) placed in
    let node : d.node < r.nodes = ltb-true _ _ (and_parts (is_flat r.dimension d.position) (nat_lt d.node r.nodes) places.0).1 in
    let exists : d.node < t.nodes = omega (arith, node, fits.nodes) in
    and_from _ _ (read_given t ok c d h (leb-true _ _ nears.0) exists) (all_given r t fits ok c h ds nears.1 places.1)

-- if a periodic configuration whose box has at most 65,536 symbols fits a well-formed rule, then each cell that the rule reads at a cell of the box
-- lies in the range of positions and has a symbol
pub box_given : (r : LocalRule) (t : Tile) → IsRule r → Fits r t → IsPeriodic t → (c : Cell) → IsInBox t c → is_given r c (tile_look t) ≡ true
box_given r t rule fits ok c h =
    let node : c.node < r.nodes = omega (arith, h.node, fits.nodes) in
    all_given r t fits ok c h (reads_at r c.node) (rule.short c.node node) (rule.placed c.node node)

-- a configuration that fits a rule gives only symbols of the rule's alphabet
pub tile_below : (r : LocalRule) (t : Tile) → Fits r t → HasSymbolsBelow r.symbols (tile_look t)
tile_below r t fits c =
    cond_both (nat_lt c.node t.nodes) (slice_get t.symbols (tile_index t c)) None (λ o. IfSome o (λ s. s < r.symbols)) (λ _. below_at r.symbols t.symbols fits.symbols (tile_index t c)) (λ _. tt)

-- a filling with symbols below n gives only symbols below n
pub filling_below : (n : ℕ) (f : Filled) → All (λ s. s < n) f.symbols → HasSymbolsBelow n (filling_look f)
filling_below n f h c = below_at n f.symbols h (position_or_len (λ d. is_eq (cell_cmp d c)) f.cells)
