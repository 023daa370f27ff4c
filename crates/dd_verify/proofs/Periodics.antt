-- A periodic configuration gives a symbol to each cell that a rule reads at the origin.
use Rattle.std.proofs.Common.{◌≡◌, ℕ, ◌<◌, Bool, ap, sym, subst, ◌∙◌, Some, None}
use Rattle.std.specs.Prelude.{Option, cond}
use Rattle.dd_lattice.specs.Cells.{cell}
use Rattle.dd_pattern.specs.{Tile.Tile, Tile.IsPeriodic, Tile.tile_look, lemmas.BoxLaws.origin_in_box}
use Rattle.dd_formula.specs.LocalRule.{LocalRule, IsRule, is_true, is_given}
use Rattle.dd_formula.specs.{Living.Fits, lemmas.Reached.box_given}
use Rattle.dd_boxes.specs.Boxes.{origin}

-- all cells that the rule reads at the origin have symbols, so `truth`, called there, says whether the rule is true, and does not return `None`
pub origin_told : (r : LocalRule) (t : Tile) (a : ℕ) (answer : Option Bool) → IsRule r → Fits r t → IsPeriodic t → a < r.nodes →
    answer ≡ cond (is_given r (cell origin a) (tile_look t)) (Some (is_true r (cell origin a) (tile_look t))) None →
    answer ≡ Some (is_true r (cell origin a) (tile_look t))
origin_told r t a answer rule fits ok node said =
    let here : a < t.nodes = subst (λ n. a < n) (sym fits.nodes) node in
    said
    ∙ ap (λ b. cond b (Some (is_true r (cell origin a) (tile_look t))) None)
    (box_given r t rule fits ok (cell origin a) (origin_in_box t a ok.tile here))
