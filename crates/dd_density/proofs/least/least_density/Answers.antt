use Rattle.std.proofs.lemmas.Result.{IfOk-weaker}
use Rattle.dd_strip.specs.Strips.{strip_for}
use Rattle.dd_density.proofs.Answers.{mean_over, is_certified, is_small, volume_some, volume_few}
use Rattle.dd_density.proofs.least.least_density.Goals as goal

pub density_of-requires : goal.density_of-requires
density_of-requires c =
    let y = c.args.strip in
    mean_over c.in_ok-graph.graph _ c.in_ok-mean.mean c.in_ok-graph.ensures.kept
    (volume_some _ _ c.requires.strip.y_some c.requires.strip.z_some) (volume_few _ _ c.requires.strip.y_most c.requires.strip.z_most) c.in_ok-mean.ensures

pub returns-clause-certified : goal.returns-clause-certified
returns-clause-certified c =
    IfOk-weaker c.density_of.result _ _ (λ d of. is_certified c.args.rule.now (strip_for c.args.rule.now c.args.strip) c.args.weights.now c.in_ok-graph.graph c.in_ok-mean.mean d c.in_ok-graph.ensures c.in_ok-mean.ensures of) c.density_of.ensures

pub returns-clause-small : goal.returns-clause-small
returns-clause-small c =
    let over =
    mean_over c.in_ok-graph.graph _ c.in_ok-mean.mean c.in_ok-graph.ensures.kept
    (volume_some _ _ c.requires.strip.y_some c.requires.strip.z_some) (volume_few _ _ c.requires.strip.y_most c.requires.strip.z_most) c.in_ok-mean.ensures in
    IfOk-weaker c.density_of.result _ _ (λ d of. is_small c.args.rule.now (strip_for c.args.rule.now c.args.strip) c.args.weights.now c.in_ok-graph.graph c.in_ok-mean.mean d c.in_ok-graph.ensures c.in_ok-mean.ensures over of) c.density_of.ensures
