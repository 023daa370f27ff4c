use Rattle.std.specs.Prelude.{◌≡◌}
use Rattle.dd_trail.proofs.watches.Watches.watch_all.Given as goal

abbrev pub invariant-loop-place : goal.invariant-loop-place
invariant-loop-place l = l.self ≡ l.fn.self
