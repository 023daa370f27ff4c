-- The number of each cell of a box is its index in the list of the box's cells.
use Rattle.std.proofs.Common.{◌≡◌, ℕ, zero, suc, ◌*◌, ◌/◌, ◌%◌, ◌<◌, true, length, refl, ap, sym, ◌∙◌, arith, Some}
use Rattle.std.proofs.lemmas.Bool.{and_parts, and_from, ltb-true, lt-ltb}
use Rattle.std.proofs.lemmas.Nat.{mul-add-lt, div-mul-add, mod-mul-add, mod_below, div_below, div-add-mod'}
use Rattle.std.proofs.lemmas.Option.{slice_get_within}
use Rattle.std.specs.Prelude.{nat_lt, slice_get}
use Rattle.dd_lattice.specs.{Place.Place, Boxes.IsWithin, Boxes.centred, Boxes.volume, Boxes.index_in, Boxes.place_in}
use Rattle.dd_lattice.specs.declared.position.Cell.{Cell}
use Rattle.dd_lattice.specs.lemmas.BoxLaws.{index_below, place_at_index, index_of_place, place_within, centred_members, bounds_ordered}
use Rattle.dd_formula.specs.LocalRule.{LocalRule}
use Rattle.dd_boxes.specs.{Fillings.in_box, Fillings.is_box_cell, lemmas.OneBoxLaws.box_is_centred, Cells.box_cells}
use Rattle.dd_problem.specs.{Layouts.nth_cell, Layouts.box_index, Layouts.box_layout, lemmas.Reading.IsLayout}
use Rattle.dd_problem.specs.lemmas.{CellOrder.length-cells_in, CellOrder.cell_at_number, Filtered.some_same}
use Rattle.dd_values.specs.lemmas.Numbers.{minus_below}

pub box_within : (d n : ℕ) (p : Place) → in_box d n p ≡ true → IsWithin (centred d n) p
box_within d n p h = (centred_members d n p).1 ((box_is_centred d n p).0 h)

within_box : (d n : ℕ) (p : Place) → IsWithin (centred d n) p → in_box d n p ≡ true
within_box d n p h = (box_is_centred d n p).1 ((centred_members d n p).0 h)

abbrev box_cell : LocalRule → ℕ → ℕ → Cell
box_cell x n k = nth_cell (centred x.dimension n) x.nodes k

abbrev pub box_size : LocalRule → ℕ → ℕ
box_size x n = volume (centred x.dimension n) * x.nodes

pub length-box_cells : (x : LocalRule) (n : ℕ) → length (box_cells x n) ≡ box_size x n
length-box_cells x n = length-cells_in (centred x.dimension n) x.nodes

index_within : (x : LocalRule) (n : ℕ) (c : Cell) → is_box_cell x n c ≡ true → box_index x n c < box_size x n
index_within x n c h =
    let both = and_parts (in_box x.dimension n c.position) (nat_lt c.node x.nodes) h in
    let b = centred x.dimension n in
    let low = mul-add-lt (index_in b c.position) x.nodes c.node (volume b) (index_below b c.position (box_within x.dimension n c.position both.0)) (ltb-true c.node x.nodes both.1) in
    omega (arith, low)

cell_at : (x : LocalRule) (n : ℕ) (c : Cell) → is_box_cell x n c ≡ true → box_cell x n (box_index x n c) ≡ c
cell_at x n c h =
    let both = and_parts (in_box x.dimension n c.position) (nat_lt c.node x.nodes) h in
    let b = centred x.dimension n in
    let node = ltb-true c.node x.nodes both.1 in
    rw (
      div-mul-add (index_in b c.position) x.nodes c.node node,
      mod-mul-add (index_in b c.position) x.nodes c.node node,
      place_at_index b c.position (box_within x.dimension n c.position both.0),
    ) refl

some_nodes : (v m k : ℕ) → k < v * m → 0 < m
some_nodes v zero k h = absurd (omega arith)
some_nodes v (suc m) k h = omega arith

in_the_box : (x : LocalRule) (n k : ℕ) → k < box_size x n → is_box_cell x n (box_cell x n k) ≡ true
in_the_box x n k h =
    let b = centred x.dimension n in
    let m = some_nodes (volume b) x.nodes k h in
    let row : k / x.nodes < volume b = div_below k x.nodes (volume b) m h in
    and_from _ _ (within_box x.dimension n (place_in b (k / x.nodes)) (place_within b (k / x.nodes) (bounds_ordered x.dimension n) row))
    (lt-ltb (k % x.nodes) x.nodes (mod_below k x.nodes m))

index_back : (x : LocalRule) (n k : ℕ) → box_index x n (box_cell x n k) ≡ k
index_back x n k = rw (index_of_place (centred x.dimension n) (k / x.nodes)) (div-add-mod' k x.nodes)

-- a cell of the box stands at its number
pub box_cell_there : (x : LocalRule) (n : ℕ) (c : Cell) → is_box_cell x n c ≡ true → slice_get (box_cells x n) (box_index x n c) ≡ Some c
box_cell_there x n c h = cell_at_number (centred x.dimension n) x.nodes (box_index x n c) (index_within x n c h) ∙ ap (λ d. Some d) (cell_at x n c h)

pub box_is_layout : (x : LocalRule) (n : ℕ) → IsLayout (box_layout x n)
box_is_layout x n = record {
  within = λ c h. (let low = index_within x n c h in omega (arith, length-box_cells x n));
  node = λ c h. (c, box_cell_there x n c h, refl);
}

pub box_cell_at : (x : LocalRule) (n k : ℕ) (c : Cell) → slice_get (box_cells x n) k ≡ Some c → (is_box_cell x n c ≡ true) × (box_index x n c ≡ k)
box_cell_at x n k c is =
    let within = slice_get_within (box_cells x n) k c is in
    let below : k < box_size x n = omega (arith, length-box_cells x n) in
    let same : c ≡ box_cell x n k = some_same c (box_cell x n k) (sym is ∙ cell_at_number (centred x.dimension n) x.nodes k below) in
    (ap (is_box_cell x n) same ∙ in_the_box x n k below, ap (box_index x n) same ∙ index_back x n k)
