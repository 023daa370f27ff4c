use Rattle.std.proofs.Common.{◌∙◌, ap, sym}
use Rattle.std.specs.List.{list_all}
use Rattle.dd_lattice.specs.lemmas.InOrderLaws.{list_all-in_order}
use Rattle.dd_formula.specs.{LocalRule.is_near, Compositions.composition}
use Rattle.dd_formula.specs.lemmas.CompositionLaws.{passes_more, range_fails}
use Rattle.dd_formula.proofs.composition.has_short.Goals as goal

pub returns-then-not-are_near : goal.returns-then-not-are_near
returns-then-not-are_near c =
    let h = composition c.args.outer.now c.args.inner.now in
    let a = c.loop-node.node in
    sym (range_fails (λ b. list_all is_near (h.reads b)) c.args.nodes a c.loop-node-test.true
    (sym (ap (list_all is_near) (c.as_slice.ensures.value ∙ c.in_ok-cells.ensures.list) ∙ list_all-in_order is_near (h.reads a)) ∙ (sym c.are_near.ensures ∙ c.if-not-are_near.true)))

pub loop-node-preserved : goal.loop-node-preserved
loop-node-preserved c =
    let h = composition c.args.outer.now c.args.inner.now in
    let a = c.loop-node.node in
    passes_more (λ b. list_all is_near (h.reads b)) a c.loop-node.invariant
    (sym (ap (list_all is_near) (c.as_slice.ensures.value ∙ c.in_ok-cells.ensures.list) ∙ list_all-in_order is_near (h.reads a)) ∙ (sym c.are_near.ensures ∙ c.if-not-are_near.false))
