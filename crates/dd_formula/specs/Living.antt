-- Which periodic configurations live in a rule's subshift.
use Rattle.std.specs.{Prelude.ℕ, Prelude.◌<◌, Prelude.◌≡◌, Prelude.true, Prelude.false, List.All, declared.cmp.Ordering.TheVariants.Less}
use Rattle.dd_lattice.specs.{Place.Place, Cells.cell, Order.cell_cmp, declared.position.Cell.Cell}
use Rattle.dd_pattern.specs.{Reading.Look, Tile.Tile, Tile.IsInBox, Tile.tile_look}
use Rattle.dd_expansion.specs.Placed.{is_flat}
use Rattle.dd_formula.specs.{LocalRule.LocalRule, LocalRule.is_true, declared.lives.Membership.Membership}
use Rattle.dd_formula.specs.declared.lives.Membership.TheVariants.{Inside, Outside}

-- the periodic configuration has the rule's dimension, the rule's number of nodes, and only symbols of the rule's alphabet
pub record Fits (r : LocalRule) (t : Tile) : Type 0 where
  pub dimension : t.dimension ≡ r.dimension
  pub nodes : t.nodes ≡ r.nodes
  pub symbols : All (λ s. s < r.symbols) t.symbols

-- the rule is true at each node of each position of Z^d, under the symbols that the look-up gives
abbrev pub Obeys : LocalRule → Look → Type 0
Obeys r look = (v : Place) (a : ℕ) → is_flat r.dimension v ≡ true → a < r.nodes → is_true r (cell v a) look ≡ true

-- the periodic configuration lives in the rule's subshift
abbrev pub Lives : LocalRule → Tile → Type 0
Lives r t = Obeys r (tile_look t)

-- c is the first cell of the fundamental box, in cell order, at which the rule is false
pub record IsFirstFalse (r : LocalRule) (t : Tile) (c : Cell) : Type 0 where
  pub within : IsInBox t c
  pub here : is_true r c (tile_look t) ≡ false
  pub before : (d : Cell) → IsInBox t d → cell_cmp d c ≡ Less → is_true r d (tile_look t) ≡ true

-- whether the answer is right: `Inside` is right if the configuration lives in the rule's subshift, and `Outside c` if c is the
-- first cell of the fundamental box at which the rule is false
abbrev pub IsMembership : LocalRule → Tile → Membership → Type 0
IsMembership r t Inside = Lives r t
IsMembership r t (Outside c) = IsFirstFalse r t c
