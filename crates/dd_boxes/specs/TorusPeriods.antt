-- The periods that a torus may have.
use Rattle.std.specs.Prelude.{ℕ, ◌≤◌, ◌*◌}
use Rattle.dd_pattern.specs.{declared.periods.Periods.Periods, Periods.ArePeriodsIn, Periods.periods_volume, Tile.most_symbols}

-- Periods in d dimensions. Each is at least 1, and those along the axes past the dimension are 1. The shear says how far each repetition along the
-- second axis is moved along the first; it is less than the first period, and 0 in one dimension. The fundamental box has the periods as its side
-- lengths. With this many nodes at each position, it has at most `most_symbols` cells, so that code can hold a symbol for each of them.
pub record AreTorusPeriods (d nodes : ℕ) (p : Periods) : Type 0 where
  pub periods : ArePeriodsIn d p
  pub few : periods_volume p * nodes ≤ most_symbols
