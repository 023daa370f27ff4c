-- A rule that is true at each cell of the fundamental box is true at every cell. Of the cells of the box at which a rule is false, the one with the
-- least number is the first in cell order. The cells of the box are numbered from 0, in the order in which their symbols are listed.
use Rattle.std.proofs.Common.{◌≡◌, ℕ, ◌<◌, length, true, false, ap, sym, ◌∙◌, arith}
use Rattle.dd_lattice.specs.{Place.Place, Place.moved, Cells.cell, Cells.shifted, declared.position.Cell.Cell}
use Rattle.dd_pattern.specs.{Periods.base_of, Tile.Tile, Tile.IsTile, Tile.tile_index, Tile.tile_look, Tile.cell_in}
use Rattle.dd_pattern.specs.lemmas.{TileLaws.base_moved, TileLaws.look_same, TileSizes.index_below}
use Rattle.dd_pattern.specs.lemmas.BoxLaws.{cell_at_index, cell_of_index, in_box, index_of_cell, before_by_order}
use Rattle.dd_expansion.specs.Terms.{origin_at}
use Rattle.dd_formula.specs.{LocalRule.LocalRule, LocalRule.is_true, Living.Fits, Living.Lives, Living.IsFirstFalse}
use Rattle.dd_formula.specs.lemmas.{RuleLaws.truth_moved_back, LookLaws.same_look}

abbrev pub true_in : LocalRule → Tile → ℕ → Type 0
true_in r t i = is_true r (cell_in t i) (tile_look t) ≡ true

look_at_base : (t : Tile) → IsTile t → (v : Place) (c : Cell) → tile_look t (shifted v c) ≡ tile_look t (shifted (base_of t.periods v) c)
look_at_base t ok v c =
    look_same t (moved c.position v) (moved c.position (base_of t.periods v)) c.node (base_moved t.dimension t.periods ok.periods c.position v)

truth_at_base : (r : LocalRule) (t : Tile) → IsTile t → (v : Place) (a : ℕ) → is_true r (cell v a) (tile_look t) ≡ is_true r (cell (base_of t.periods v) a) (tile_look t)
truth_at_base r t ok v a =
    truth_moved_back r v a (tile_look t)
    ∙ (ap (is_true r (origin_at a)) (same_look (λ c. tile_look t (shifted v c)) (λ c. tile_look t (shifted (base_of t.periods v) c)) (look_at_base t ok v))
    ∙ sym (truth_moved_back r (base_of t.periods v) a (tile_look t)))

-- a rule that is true at each cell of the box is true everywhere
pub lives_from_box : (r : LocalRule) (t : Tile) → Fits r t → IsTile t → ((k : ℕ) → k < length t.symbols → true_in r t k) → Lives r t
lives_from_box r t fits ok h v a _ below =
    let node : a < t.nodes = omega (arith, below, fits.nodes) in
    truth_at_base r t ok v a
    ∙ (ap (λ c. is_true r c (tile_look t)) (sym (cell_at_index t ok v a node)) ∙ h (tile_index t (cell v a)) (index_below t ok (cell v a) node))

-- if the rule is false at a cell of the box and true at the cells with smaller numbers, then this cell is the first of the box, in cell order, at
-- which the rule is false
pub first_from_box : (r : LocalRule) (t : Tile) → IsTile t → (i : ℕ) → i < length t.symbols → is_true r (cell_in t i) (tile_look t) ≡ false → ((k : ℕ) → k < i → true_in r t k) →
    IsFirstFalse r t (cell_in t i)
first_from_box r t ok i within here before =
    record {
      within = in_box t ok i within;
      here = here;
      before = λ d h less.
          let earlier : tile_index t d < i = omega (arith, before_by_order t ok (cell_in t i) d (in_box t ok i within) h less, index_of_cell t ok i within) in
          ap (λ c. is_true r c (tile_look t)) (sym (cell_of_index t ok d h)) ∙ before (tile_index t d) earlier;
    }
