use Rattle.std.proofs.Common.{ℕ, ◌≡◌, ◌+◌, ◌-◌, ◌<◌, arith, length, ◌∷◌, [], ◌++◌}
use Rattle.std.proofs.lemmas.List.{length-append}
use Rattle.dd_meancycle.specs.table.Rises.{IsRank}
use Rattle.dd_meancycle.proofs.Steps.{each_push}
use Rattle.dd_meancycle.proofs.rises.ranks.Goals as goal

pub loop-state-preserved : goal.loop-state-preserved
loop-state-preserved c = rw (c.in_ok-push.ensures.items) (record {
  len = rw length-append (omega arith);
  each = each_push (IsRank c.args.levels.now c.args.last) c.loop-state.ranks.items c.loop-state.state _ c.loop-state.invariant.len c.loop-state.invariant.each (c.height.result, c.height.ensures, omega arith);
})
