use Rattle.dd_fraction.proofs.OddDivisors.{shifted_odd, shifted_same}
use Rattle.dd_fraction.proofs.divisor.without_twos.Goals as goal

pub returns-clause-odd : goal.returns-clause-odd
returns-clause-odd c = shifted_odd c.args.n c.requires c.ranges.n.fits

pub returns-clause-same : goal.returns-clause-same
returns-clause-same c = λ x odd. shifted_same x c.args.n c.requires c.ranges.n.fits odd
