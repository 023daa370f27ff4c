use Rattle.std.proofs.Common.{◌≡◌, ◌++◌, ◌∷◌, []}
use Rattle.dd_output.specs.reading.{Stops.many_at, Grammar.pattern}
use Rattle.dd_output.proofs.Counts.{many_on}
use Rattle.dd_output.proofs.bodies.patterns_of.Goals as goal

pub loop-preserved : goal.loop-preserved
loop-preserved c =
    let pushed : c.push.new.self ≡ c.loop.patterns ++ c.in_ok-pattern.pattern ∷ [] = c.in_ok-push.ensures.ok in
    rw pushed (many_on pattern.read pattern.least c.loop.patterns c.args.count c.loop.counter c.loop.rest.now c.in_ok-pattern.pattern c.in_ok-pattern.after.now
    (many_at pattern.read pattern.least c.args.count c.args.bytes.now) c.loop-test.true c.in_ok-pattern.ensures c.loop.invariant)
