use Rattle.std.proofs.Common.{sym, subst}
use Rattle.dd_certificate.specs.Bounds.{IsWritable}
use Rattle.dd_respond.specs.Bounds.{IsRightDensity}
use Rattle.dd_respond.proofs.Measuring.{density_right, density_fits}
use Rattle.dd_respond.proofs.densities.least.Goals as goal

pub returns-clause-right : goal.returns-clause-right
returns-clause-right c =
    let x = c.args.rule.now in
    let ws = c.args.weights.now in
    subst (IsRightDensity x c.args.strip ws) (sym c.written_density.ensures)
    (density_right c.strip_least.ensures c.strip_empty.ensures x c.args.strip ws c.nodes-nodes.ensures.kept c.requires.strip c.in_ok-density.density
    c.in_ok-density.ensures.certified)

pub returns-clause-writable : goal.returns-clause-writable
returns-clause-writable c =
    let x = c.args.rule.now in
    let ws = c.args.weights.now in
    subst IsWritable (sym c.written_density.ensures)
    (density_fits x c.args.strip ws c.nodes-nodes.ensures.kept c.requires c.in_ok-density.density c.in_ok-density.ensures.certified c.in_ok-density.ensures.small)

pub least_density-requires-clause-strip : goal.least_density-requires-clause-strip
least_density-requires-clause-strip c = c.requires.strip

pub least_density-requires-clause-weights : goal.least_density-requires-clause-weights
least_density-requires-clause-weights c = c.requires.weights

pub least_density-requires-clause-few : goal.least_density-requires-clause-few
least_density-requires-clause-few c = c.requires.few
