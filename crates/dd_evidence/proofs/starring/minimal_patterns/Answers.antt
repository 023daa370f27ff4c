use Rattle.dd_minimal.specs.Minimal.{IsMinimalList}
use Rattle.dd_evidence.specs.Lists.{starred}
use Rattle.dd_evidence.proofs.NodeLists.{next_node}
use Rattle.dd_evidence.proofs.starring.minimal_patterns.Goals as goal

pub loop-node-preserved : goal.loop-node-preserved
loop-node-preserved c =
    next_node (IsMinimalList c.args.rule.now) starred c.loop-node.node c.loop-node.patterns _ c.loop-node.invariant c.in_ok-push_starred.ensures
