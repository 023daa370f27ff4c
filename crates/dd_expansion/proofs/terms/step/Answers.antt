use Rattle.std.proofs.Common.{◌≡◌, true, ◌∙◌}
use Rattle.dd_topology.specs.Topology.{are_short}
use Rattle.dd_expansion.proofs.Extents.{step_near, step_stays}
use Rattle.dd_expansion.proofs.terms.step.Goals as goal

pub returns-clause-value : goal.returns-clause-value
returns-clause-value c =
    let es = c.args.topology.now.edges in
    let short : are_short 4 es ≡ true = rw c.edges-edges.ensures.edges at c.edges-edges.ensures.short in
    c.step.ensures.value ∙ step_stays es c.args.from.now c.args.label short c.requires.near

pub returns-clause-near : goal.returns-clause-near
returns-clause-near c =
    let es = c.args.topology.now.edges in
    let short : are_short 4 es ≡ true = rw c.edges-edges.ensures.edges at c.edges-edges.ensures.short in
    rw (c.step.ensures.value, step_stays es c.args.from.now c.args.label short c.requires.near) (step_near es c.args.from.now c.args.label short)
