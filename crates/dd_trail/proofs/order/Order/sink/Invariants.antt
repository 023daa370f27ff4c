use Rattle.std.proofs.Common.{◌-◌}
use Rattle.dd_trail.proofs.order.Order.sink.Given as goal

abbrev pub decreases-loop-below : goal.decreases-loop-below
decreases-loop-below l = l.self.waiting - l.place
