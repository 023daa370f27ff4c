use Rattle.std.proofs.{Common.◌<◌, Common.◌≤◌, Common.sym, Common.arith, lemmas.Bool.le-leb, lemmas.Bool.lt-leb}
use Rattle.std.specs.Prelude.{nat_le}
use Rattle.dd_formula.specs.{LocalRule.most_instances, ByCases.counts_over}
use Rattle.dd_formula.specs.lemmas.CompositionLaws.{passes_more, range_fails}
use Rattle.dd_formula.proofs.by_cases.has_few.Goals as goal

pub returns-then-branch-gt-MOST_INSTANCES : goal.returns-then-branch-gt-MOST_INSTANCES
returns-then-branch-gt-MOST_INSTANCES c =
    let g = c.args.topology.now in
    let f = counts_over g c.args.sets.now c.args.cases.now in
    let a = c.loop-node.node in
    let many : most_instances < f.instances a = omega (arith, c.in_ok-instances_at.ensures, c.if-branch-gt-MOST_INSTANCES.true) in
    let below : a < g.nodes = omega (arith, c.nodes-node-end.ensures.value, c.loop-node-test.true) in
    sym (range_fails (λ b. nat_le (f.instances b) most_instances) g.nodes a below (lt-leb (f.instances a) most_instances many))

pub loop-node-preserved : goal.loop-node-preserved
loop-node-preserved c =
    let f = counts_over c.args.topology.now c.args.sets.now c.args.cases.now in
    let a = c.loop-node.node in
    let few : f.instances a ≤ most_instances = omega (arith, c.in_ok-instances_at.ensures, c.if-branch-gt-MOST_INSTANCES.false) in
    passes_more (λ b. nat_le (f.instances b) most_instances) a c.loop-node.invariant (le-leb (f.instances a) most_instances few)
