use Rattle.std.proofs.Common.{map, ap, ◌∙◌, ◌++◌, ◌∷◌, []}
use Rattle.dd_compile.specs.Templates.{rule_at}
use Rattle.dd_problem.specs.lemmas.RangesLeft.{range_to, left_step}
use Rattle.dd_problem.proofs.gates.templates_of.Goals as goal

pub loop-node-preserved : goal.loop-node-preserved
loop-node-preserved c =
    let x = c.args.rule.now in
    let nodes = c.nodes-nodes.result in
    left_step (rule_at x) (map (rule_at x) (range_to 0 nodes)) c.loop-node.templates.items c.push.new.self.items c.loop-node.node nodes
    c.loop-node-test.true c.loop-node.invariant (c.in_ok-push.ensures.items ∙ ap (λ t. c.loop-node.templates.items ++ t ∷ []) c.in_ok-compile_template.ensures)
