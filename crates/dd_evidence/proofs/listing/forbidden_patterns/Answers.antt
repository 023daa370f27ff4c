use Rattle.dd_forbidden.specs.Breaking.{BreakingFillings}
use Rattle.dd_evidence.specs.Lists.{listed}
use Rattle.dd_evidence.proofs.NodeLists.{next_node}
use Rattle.dd_evidence.proofs.listing.forbidden_patterns.Goals as goal

pub loop-node-preserved : goal.loop-node-preserved
loop-node-preserved c =
    next_node (BreakingFillings c.args.rule.now) listed c.loop-node.node c.loop-node.patterns _ c.loop-node.invariant c.in_ok-push_node.ensures
