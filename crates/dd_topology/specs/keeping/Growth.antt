-- One round in the growth of a set of cells that is stored in cell order.
use Rattle.std.specs.Prelude.{◌⊎◌, ◌↔◌, List, Contains}
use Rattle.dd_lattice.specs.declared.position.Cell.{Cell}

-- Adding `cells` to the cells `before` gives the cells `now`. Each cell of `fresh` is in `now`, and each cell of `now` that isn't in
-- `before` is in `fresh`.
pub record AddsCells (before cells now fresh : List Cell) : Type 0 where
  pub members : (d : Cell) → Contains now d ↔ (Contains before d ⊎ Contains cells d)
  pub fresh_found : (d : Cell) → Contains fresh d → Contains now d
  pub rest_known : (d : Cell) → Contains now d → Contains before d ⊎ Contains fresh d
