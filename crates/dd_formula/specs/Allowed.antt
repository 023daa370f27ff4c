-- Symbols that the nodes of a rule allow.
use Rattle.std.specs.Prelude.{◌≡◌, true, IfSome}
use Rattle.dd_lattice.specs.declared.position.Cell.{Cell}
use Rattle.dd_pattern.specs.{Reading.Look, Tile.Tile, Tile.tile_look}
use Rattle.dd_formula.specs.LocalRule.{LocalRule, rule_allows}

-- each symbol that the look-up gives a cell is one that the cell's node allows
abbrev pub AreAllowed : LocalRule → Look → Type 0
AreAllowed r look = (c : Cell) → IfSome (look c) (λ s. rule_allows r c.node s ≡ true)

-- each symbol of a periodic configuration is allowed at its cell
abbrev pub HasAllowed : LocalRule → Tile → Type 0
HasAllowed r t = AreAllowed r (tile_look t)
