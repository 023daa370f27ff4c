use Rattle.std.proofs.Common.{arith, ◌<◌, length, Contains, subst, sym, ◌∙◌}
use Rattle.dd_lattice.specs.{Order.cell_cmp, lemmas.InOrderLaws.cells_equal}
use Rattle.dd_topology.specs.lemmas.OrderLaws.{has-insert_key}
use Rattle.dd_topology.proofs.GrowthLaws.{adds_new, adds_known}
use Rattle.dd_topology.proofs.balls.fresh_cells.Goals.{then-branch+in_ok-push, else-branch}
use Rattle.dd_topology.proofs.balls.fresh_cells.Goals as goal

pub loop-cell-preserved : goal.loop-cell-preserved
loop-cell-preserved c =
    let x = c.cell-item.result in
    let below : c.loop-cell.cell-index < length c.args.cells.now = omega arith in
    let keys = c.in_ok-insert.ensures.keys in
    elim c.if-branch.branch [
      | then-branch+in_ok-push w ↦ rw (w.fresh-is, w.in_ok-push.ensures.items, keys) (adds_new _ _ _ _ _ x below c.cell-item.is c.loop-cell.invariant)
      | else-branch w ↦ (
          let same = rw w.if-branch.false at c.in_ok-insert.ensures.unchanged in
          rw (w.fresh-is, same) (adds_known _ _ _ _ _ x below c.cell-item.is c.loop-cell.invariant (subst (λ l. Contains l x) (sym keys ∙ same) (has-insert_key cell_cmp cells_equal _ x)))
          )
    ]
