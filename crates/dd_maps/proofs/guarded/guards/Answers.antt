use Rattle.std.proofs.Common.{◌≡◌, [], ap, sym, ◌∙◌, arith}
use Rattle.std.specs.Prelude.{not}
use Rattle.dd_maps.specs.Guarded.{guard, allows_all}
use Rattle.dd_maps.proofs.Steps.{passed, failed, whole}
use Rattle.dd_maps.proofs.guarded.guards.Goals as goal
use Rattle.dd_maps.proofs.guarded.guards.Goals.{then-not-allows_all+in_ok-guard+in_ok-push, else-not-allows_all}

pub loop-node-preserved : goal.loop-node-preserved
loop-node-preserved c =
    let s = c.args.sets.now in
    let n = c.loop-node.node in
    elim c.if-not-allows_all.branch [
      | then-not-allows_all+in_ok-guard+in_ok-push w ↦ passed [] (guard s) (λ a. not (allows_all s a)) n _ c.loop-node.invariant _ _
          (ap not (sym c.allows_all.ensures ∙ w.if-not-allows_all.true)) w.in_ok-guard.ensures (ap (λ v. v.items) w.guards-is ∙ w.in_ok-push.ensures.items)
      | else-not-allows_all w ↦ failed [] (guard s) (λ a. not (allows_all s a)) n _ c.loop-node.invariant _
          (ap not (sym c.allows_all.ensures ∙ w.if-not-allows_all.false)) (ap (λ v. v.items) w.guards-is)
    ]

pub returns : goal.returns
returns c =
    let s = c.args.sets.now in
    let same : c.loop-node.node ≡ c.args.nodes = omega (arith, c.loop-node-test.false, c.loop-node.auto.node-end) in
    whole [] (guard s) (λ a. not (allows_all s a)) _ _ _ c.loop-node.invariant same
