-- The chessboard is a periodic configuration, and it has the dimension, the number of nodes and the symbols of the hard-square rule.
use Rattle.std.proofs.Common.{refl, arith}
use Rattle.dd_pattern.specs.{Tile.IsTile, Tile.IsPeriodic, Periods.ArePeriodsIn}
use Rattle.dd_formula.specs.Living.{Fits}
use Rattle.dd_examples.specs.Squares.{hard, two_by_two, chessboard}

are_periods : ArePeriodsIn 2 two_by_two
are_periods = record {
  x_some = omega arith;
  y_some = omega arith;
  z_some = omega arith;
  y_unused = λ less. absurd (omega (arith, less));
  z_unused = λ less. refl;
  shear_small = omega arith;
  shear_unused = λ less. refl;
}

is_tile : IsTile chessboard
is_tile = record { some_dimension = omega arith; most_dimension = omega arith; periods = are_periods; nodes_some = omega arith; full = refl }

pub is_board : IsPeriodic chessboard
is_board = record { tile = is_tile; small = omega arith }

pub fits_board : Fits hard chessboard
fits_board = record { dimension = refl; nodes = refl; symbols = search arith }
