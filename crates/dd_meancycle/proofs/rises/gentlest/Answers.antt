use Rattle.std.proofs.Common.{ℕ, ◌≡◌, arith}
use Rattle.dd_meancycle.proofs.Gentle.{gentlest_more}
use Rattle.dd_meancycle.proofs.rises.gentlest.Goals as goal

pub loop-state-preserved : goal.loop-state-preserved
loop-state-preserved c = gentlest_more c.args.levels.now c.args.last c.loop-state.state c.loop-state.best c.steepest.result c.gentler-best.result c.loop-state.invariant c.steepest.ensures.is c.steepest.ensures.small c.gentler-best.ensures
