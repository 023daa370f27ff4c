use Rattle.std.proofs.Common.{◌≡◌, [], ◌∷◌, ap, sym, ◌∙◌, arith}
use Rattle.dd_topology.specs.Sets.{allows}
use Rattle.dd_expansion.specs.declared.formulas.Formula.TheVariants.{Not, Node, Or}
use Rattle.dd_maps.specs.Guarded.{here, symbol_is}
use Rattle.dd_maps.proofs.Steps.{passed, failed, whole}
use Rattle.dd_maps.proofs.guarded.guard.Goals as goal
use Rattle.dd_maps.proofs.guarded.guard.Goals.{then-allows+in_ok-push-2, else-allows}

pub loop-symbol-preserved : goal.loop-symbol-preserved
loop-symbol-preserved c =
    let front = Not (Node here c.args.node) ∷ [] in
    let test = allows c.args.sets.now c.args.node in
    let n = c.loop-symbol.symbol in
    elim c.if-allows.branch [
      | then-allows+in_ok-push-2 w ↦ passed front symbol_is test n _ c.loop-symbol.invariant _ _ (sym c.allows.ensures ∙ w.if-allows.true) w.symbol_is.ensures
          (w.parts-is ∙ w.in_ok-push-2.ensures.ok)
      | else-allows w ↦ failed front symbol_is test n _ c.loop-symbol.invariant _ (sym c.allows.ensures ∙ w.if-allows.false) w.parts-is
    ]

pub returns : goal.returns
returns c =
    let same : c.loop-symbol.symbol ≡ c.args.sets.now.symbols = omega (arith, c.loop-symbol-test.false, c.loop-symbol.auto.symbol-end, c.symbols-symbol-end.ensures.value) in
    ap Or (whole (Not (Node here c.args.node) ∷ []) symbol_is (allows c.args.sets.now c.args.node) _ _ _ c.loop-symbol.invariant same)
