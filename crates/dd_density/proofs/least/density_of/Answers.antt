use Rattle.std.proofs.Common.{◌*◌, arith, subst}
use Rattle.dd_density.specs.graphs.Means.{IsMeanOver}
use Rattle.dd_density.proofs.Fractions.{lowest_small}
use Rattle.dd_density.proofs.least.density_of.Goals as goal

pub overflow_cast-result : goal.overflow_cast-result
overflow_cast-result c =
    let over = subst (IsMeanOver c.args.volume) c.in-Least.is c.requires in
    let low = lowest_small c.in_lowest_terms-density.result.numerator c.in_lowest_terms-density.result.denominator c.in-Least.numerator (c.in-Least.denominator * c.args.volume) over.0 c.in_lowest_terms-density.ensures in
    omega (arith, low.numerator, over.2)

pub overflow_cast-result-in-Least : goal.overflow_cast-result-in-Least
overflow_cast-result-in-Least c =
    let over = subst (IsMeanOver c.args.volume) c.in-Least.is c.requires in
    let low = lowest_small c.in_lowest_terms-density.result.numerator c.in_lowest_terms-density.result.denominator c.in-Least.numerator (c.in-Least.denominator * c.args.volume) over.0 c.in_lowest_terms-density.ensures in
    omega (arith, low.denominator, over.1)
