use Rattle.std.proofs.Common.{◌-◌, sym, ◌∙◌, arith}
use Rattle.std.specs.Prelude.{nat_le}
use Rattle.dd_expansion.specs.Limits.{depth}
use Rattle.dd_formed.proofs.Layers.{shallow_many, one_more, all_pass}
use Rattle.dd_formed.proofs.depth.+shallow.Goals as goal
use Rattle.dd_values.specs.lemmas.Lists.{some_fails}

pub are_shallow-returns-then-not-is_shallow : goal.are_shallow-returns-then-not-is_shallow
are_shallow-returns-then-not-is_shallow t c =
    sym (some_fails (λ f. nat_le (depth f) c.args.most) c.args.parts.now c.loop-part.part-index c.part-item.result c.loop-part-test.true c.part-item.is (sym c.is_shallow.ensures ∙ c.if-not-is_shallow.true))

pub are_shallow-loop-part-preserved : goal.are_shallow-loop-part-preserved
are_shallow-loop-part-preserved t c =
    one_more (λ f. nat_le (depth f) c.args.most) c.args.parts.now c.loop-part.part-index c.part-item.result c.loop-part-test.true c.part-item.is c.loop-part.invariant (sym c.is_shallow.ensures ∙ c.if-not-is_shallow.false)

pub are_shallow-returns : goal.are_shallow-returns
are_shallow-returns t c = sym (all_pass (λ f. nat_le (depth f) c.args.most) c.args.parts.now c.loop-part.part-index (omega (arith, c.loop-part-test.false)) c.loop-part.invariant)

pub is_list_shallow-returns : goal.is_list_shallow-returns
is_list_shallow-returns t c =
    c.are_shallow-2.ensures ∙ sym (shallow_many c.args.parts.now c.args.most (c.args.most - 1) (grind (arith, c.if-parts-lt2.false)) (grind (arith, c.if-most-eq0.false)))
