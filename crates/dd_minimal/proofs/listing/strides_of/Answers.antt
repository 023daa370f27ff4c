use Rattle.std.proofs.Common.{◌≡◌, ◌<◌, ◌/◌, length, ap, subst, ◌∙◌, arith}
use Rattle.dd_formula.specs.LocalRule.{cells_at}
use Rattle.dd_minimal.proofs.NumberLaws.{strides_start, strides_more, strides_end}
use Rattle.dd_minimal.proofs.listing.strides_of.Goals as goal

pub loop-cell-init : goal.loop-cell-init
loop-cell-init c =
    let r = c.args.rule.now in
    strides_start r.symbols (length (cells_at r c.args.node)) c.args.fillings c.new-list.result c.new-list.ensures c.requires.fillings

pub loop-cell-preserved : goal.loop-cell-preserved
loop-cell-preserved c =
    let r = c.args.rule.now in
    let n = length (cells_at r c.args.node) in
    let i = c.loop-cell._cell-index in
    strides_more r.symbols n i c.loop-cell.stride (c.loop-cell.stride / c.symbols.result) c.loop-cell.list c.push.new.self
    (let least = c.symbols.ensures.kept.symbols.0 in omega (arith, least)) (subst (λ k. i < k) (ap length c.reads-cell-items.ensures.value) c.loop-cell-test.true)
    c.loop-cell.invariant (ap (λ k. c.loop-cell.stride / k) c.symbols.ensures.value) c.in_ok-push.ensures.ok

pub returns : goal.returns
returns c =
    let r = c.args.rule.now in
    let n = length (cells_at r c.args.node) in
    let end : c.loop-cell._cell-index ≡ length c.reads-cell-items.result.now = (let past = c.loop-cell-test.false in let most = c.loop-cell.auto._cell-index-end in omega (arith, past, most)) in
    strides_end r.symbols n c.loop-cell._cell-index c.loop-cell.stride c.loop-cell.list (end ∙ ap length c.reads-cell-items.ensures.value) c.loop-cell.invariant
