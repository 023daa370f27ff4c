-- The greatest number of flips that a walker makes.
use Rattle.std.specs.Prelude.{ℕ}
use Rattle.dd_engines.specs.declared.walker.Walker.{Walker}

abbrev pub flips_of : Walker → ℕ
flips_of walker = walker.flips
