use Rattle.std.proofs.Common.{◌≡◌, ℕ, suc, ◌+◌, ◌*◌, ◌<◌, ◌≤◌, arith}
use Rattle.dd_meancycle.specs.table.Levels.{level_weight_at}
use Rattle.dd_meancycle.proofs.Steps.{steep_above, steep_attained}
use Rattle.dd_meancycle.proofs.rises.steepest.Goals as goal

pub loop-k-preserved : goal.loop-k-preserved
loop-k-preserved c = record {
  above = steep_above (λ j. level_weight_at c.args.levels.now j c.args.state) c.loop-k.best c.steeper-best.result c.in_ok-end.end c.args.last c.loop-k.k _ c.weight_at-in-loop-k.ensures (let a = c.loop-k.invariant.attained in omega (arith, a.2, a.5)) c.steeper-best.ensures c.loop-k.invariant.above;
  attained = steep_attained (λ j. level_weight_at c.args.levels.now j c.args.state) c.loop-k.best c.steeper-best.result c.in_ok-end.end c.args.last c.loop-k.k _ c.weight_at-in-loop-k.ensures (omega arith) c.steeper-best.ensures c.loop-k.invariant.attained;
}
