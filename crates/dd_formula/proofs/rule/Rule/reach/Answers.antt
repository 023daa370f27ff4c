use Rattle.std.proofs.Common.{arith}
use Rattle.dd_formula.specs.{LocalRule.cells_at, lemmas.FarthestLaws.radius_more, lemmas.FarthestLaws.rule_near}
use Rattle.dd_formula.proofs.rule.Rule.reach.Goals as goal

pub loop-node-preserved : goal.loop-node-preserved
loop-node-preserved c =
    let rule = c.args.self.now in
    let n = c.loop-node.node in
    let more =
    radius_more (cells_at rule) n c.loop-node.radius c.farthest.result c.max-radius.result c.reads.result.now c.reads.ensures.value c.farthest.ensures
    c.max-radius.ensures (rule_near rule n c.reads.ensures.kept (omega arith)) (c.loop-node.invariant.value, c.loop-node.invariant.near) in
    record { value = more.0; near = more.1 }
