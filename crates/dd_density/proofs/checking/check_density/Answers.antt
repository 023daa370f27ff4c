use Rattle.dd_strip.specs.Strips.{strip_for}
use Rattle.dd_density.proofs.Walks.{certificate_of, shown_of}
use Rattle.dd_density.proofs.checking.check_density.Goals as goal

pub returns : goal.returns
returns c =
    let r = c.args.rule.now in
    let s = strip_for r c.args.strip in (
      λ yes. certificate_of r s c.args.weights.now c.in_ok-graph.graph c.args.numerator c.args.denominator c.args.walk.now c.args.potentials.now c.in_ok-graph.ensures (c.is_shown.ensures.0 yes),
      λ given. c.is_shown.ensures.1 (shown_of r s c.args.weights.now c.in_ok-graph.graph c.args.numerator c.args.denominator c.args.walk.now c.args.potentials.now c.in_ok-graph.ensures given),
    )
