use Rattle.std.proofs.Common.{◌≡◌, ℕ, ◌+◌, arith, sym, ◌∙◌, ap, add-one, length, ◌<◌, get_or}
use Rattle.dd_meancycle.specs.{declared.edges.Edge.Edge, table.Rises.is_back}
use Rattle.dd_meancycle.proofs.Steps.{find_here, find_more}
use Rattle.dd_meancycle.proofs.walk_cycle.back_edge.Goals as goal

pub returns-then-is_back : goal.returns-then-is_back
returns-then-is_back c = find_here (is_back c.args.before.now c.args.state c.args.weight) c.args.edges.now c.loop-edge.edge-index _ (omega arith) c.loop-edge.invariant (sym c.is_back.ensures ∙ c.if-is_back.true)

pub loop-edge-preserved : goal.loop-edge-preserved
loop-edge-preserved c = rw add-one (find_more (is_back c.args.before.now c.args.state c.args.weight) c.args.edges.now c.loop-edge.edge-index _ (omega arith) c.loop-edge.invariant (sym c.is_back.ensures ∙ c.if-is_back.false))
