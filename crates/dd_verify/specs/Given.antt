-- When the numbers of an answer give a configuration.
use Rattle.std.specs.Prelude.{ℕ, ◌≡◌, List, length}
use Rattle.dd_pattern.specs.{Periods.AreWithin, Tile.IsTile}
use Rattle.dd_formula.specs.{Living.Fits, LocalRule.LocalRule}
use Rattle.dd_evidence.specs.Tiles.{given_periods, given_tile}

-- the periods, the shear and the symbols give a configuration that fits the rule, and the periods are at most `most`
pub record IsGiven (x : LocalRule) (most : ℕ) (along : List ℕ) (shear : ℕ) (symbols : List ℕ) : Type 0 where
  pub as_many : length along ≡ x.dimension
  pub periods : AreWithin x.dimension most (given_periods along shear)
  pub tile : IsTile (given_tile x along shear symbols)
  pub fits : Fits x (given_tile x along shear symbols)
