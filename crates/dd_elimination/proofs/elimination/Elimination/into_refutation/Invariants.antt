use Rattle.std.proofs.Common.{◌≡◌, ◌++◌, map}
use Rattle.std.specs.Vec.Iter.{into_iter_items}
use Rattle.dd_elimination.specs.Reductions.{whole_step}
use Rattle.dd_elimination.proofs.elimination.Elimination.into_refutation.Given as goal

abbrev pub invariant-loop-step : goal.invariant-loop-step
invariant-loop-step l =
    let whole = map (whole_step l.names l.numbers l.before) in
    l.fn.self.steps.items ++ whole l.fn.steps ≡ l.all.items ++ whole (into_iter_items l.step-iterator)
