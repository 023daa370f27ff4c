use Rattle.std.proofs.Common.{sym}
use Rattle.dd_density.proofs.Shown.{rise_along}
use Rattle.dd_density.proofs.claims.is_rise_along.Goals as goal

pub returns : goal.returns
returns c =
    rise_along c.args.graph.now c.args.mean.numerator c.args.mean.denominator c.args.potentials.now c.args.state c.args.slice c.in-Some.next c.slice_weight.result c.is_rise_between.result
    (sym c.in-Some.ensures.value) c.slice_weight.ensures.value c.is_rise_between.ensures
