use Rattle.dd_fraction.specs.lemmas.Divisors.{greatest_common_above, greatest_common_le}
use Rattle.dd_fraction.proofs.divisor.common_divisor.Goals as goal

pub returns-clause-above : goal.returns-clause-above
returns-clause-above c = rw (c.greatest_common_divisor.ensures) (greatest_common_above c.unsigned_abs.result c.args.den c.requires)

pub returns-clause-below : goal.returns-clause-below
returns-clause-below c = rw (c.greatest_common_divisor.ensures) (greatest_common_le c.unsigned_abs.result c.args.den c.requires)
