-- Cells, as answers write them.
use Rattle.std.specs.Prelude.{ℕ, ◌≡◌, ℤ, pos, List, [], ◌∷◌, ◌++◌, take}
use Rattle.dd_lattice.specs.declared.position.Cell.{Cell}
use Rattle.dd_pattern.specs.Tile.{Tile}
use Rattle.dd_formula.specs.{LocalRule.LocalRule, Living.IsFirstFalse}

-- the coordinates of a cell of Z^d, followed by its node
abbrev pub written_cell : ℕ → Cell → List ℤ
written_cell d c = take d (c.position.x ∷ c.position.y ∷ c.position.z ∷ []) ++ pos c.node ∷ []

-- `place` is how an answer writes the first cell of the fundamental box (the box that repeats) at which the rule is false
abbrev pub IsOutside : LocalRule → Tile → List ℤ → Type 0
IsOutside x t place = (c : Cell) × IsFirstFalse x t c × (place ≡ written_cell x.dimension c)
