use Rattle.dd_density.proofs.Fractions.{quotients_lowest}
use Rattle.dd_density.proofs.lowest.in_lowest_terms.Goals as goal

pub returns : goal.returns
returns c = quotients_lowest c.args.a c.args.b c.gcd-common.result c.gcd-common.ensures.value c.requires (c.gcd-common.ensures.above c.requires)
