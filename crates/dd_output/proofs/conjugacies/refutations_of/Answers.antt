use Rattle.std.proofs.Common.{◌≡◌, ◌++◌, ◌∷◌, []}
use Rattle.dd_output.specs.reading.{Stops.many_at, Grammar.refutation}
use Rattle.dd_output.proofs.Counts.{many_on}
use Rattle.dd_output.proofs.conjugacies.refutations_of.Goals as goal

pub loop-preserved : goal.loop-preserved
loop-preserved c =
    let pushed : c.push.new.self ≡ c.loop.lists ++ c.in_ok-steps.steps ∷ [] = c.in_ok-push.ensures.ok in
    rw pushed (many_on refutation.read refutation.least c.loop.lists c.args.count c.loop.counter c.loop.rest.now c.in_ok-steps.steps c.in_ok-steps.after.now
    (many_at refutation.read refutation.least c.args.count c.args.bytes.now) c.loop-test.true c.in_ok-steps.ensures c.loop.invariant)
