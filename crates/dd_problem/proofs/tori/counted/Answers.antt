use Rattle.std.proofs.Common.{◌≡◌, ◌+◌, ◌++◌, ◌∷◌, [], ap, sym, ◌∙◌, arith}
use Rattle.std.proofs.lemmas.Grind.{common_steps}
use Rattle.std.specs.List.{range_with_len}
use Rattle.dd_problem.specs.lemmas.CellOrder.{range_append}
use Rattle.dd_problem.proofs.tori.counted.Goals as goal

pub loop-number-preserved : goal.loop-number-preserved
loop-number-preserved c =
    let k = c.loop-number.number in
    let first : 0 + k ≡ k = omega arith in
    c.in_ok-push.ensures.items ∙ (ap (λ ns. ns ++ k ∷ []) c.loop-number.invariant ∙ sym (range_append k 1 0 ∙ ap (λ j. range_with_len 0 k ++ j ∷ []) first))

pub returns : goal.returns
returns c = grind (arith, common_steps)
