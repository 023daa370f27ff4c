use Rattle.std.proofs.Common.{rules, ◌≡◌, ◌+◌, Bool, ◌&&◌, ap, subst, sym, ◌∙◌}
use Rattle.std.specs.Prelude.{IsTrue, ◌↔◌}
use Rattle.dd_examples.specs.Checked.{AreRightTo}
use Rattle.dd_examples.proofs.{Checked.right_next, checking.are_right.Goals.then-all, checking.are_right.Goals.else-all}
use Rattle.dd_examples.proofs.checking.are_right.Goals as goal

pub loop-done-preserved : goal.loop-done-preserved
loop-done-preserved c =
    let same : c.if-all.all ≡ (c.loop-done.all && c.in_ok-right.right) = elim c.if-all.branch [
      | then-all w ↦ w.all-is ∙ sym (ap (λ (b : Bool). b && c.in_ok-right.right) w.if-all.true)
      | else-all w ↦ w.all-is ∙ w.if-all.false ∙ sym (ap (λ (b : Bool). b && c.in_ok-right.right) w.if-all.false)
    ] in
    record {
      so_far = subst (λ (b : Bool). IsTrue b ↔ AreRightTo c.args.script.now c.args.answers.now (c.loop-done.done + 1)) (sym same)
          (right_next c.args.script.now c.args.answers.now c.loop-done.done _ c.loop-done.all c.in_ok-right.right
          (search rules) c.index-answers-done.is c.loop-done.invariant.so_far c.in_ok-right.ensures);
    }
