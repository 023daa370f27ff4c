use Rattle.std.proofs.Common.{◌≡◌, get_or, ◌∙◌, ap, sym}
use Rattle.dd_rows.specs.listing.Views.{symbols_at}
use Rattle.dd_rows.proofs.RepeatLaws.{mapped_alike, mapped_whole}
use Rattle.dd_rows.proofs.repeats.are_all_same.Goals as goal

pub loop-numbers-preserved : goal.loop-numbers-preserved
loop-numbers-preserved c =
    let lists = c.args.lists.now in
    let i = c.loop-numbers.numbers-index in
    let d = c.numbers-item.result in
    let at : c.as_slice.result.now ≡ get_or lists i d = c.as_slice.ensures ∙ c.numbers-item.is in
    let here : symbols_at c.args.one.now (get_or lists i d) ≡ symbols_at c.args.other.now (get_or lists i d) =
    ap (symbols_at c.args.one.now) (sym at) ∙ (c.are_same.ensures c.if-not-are_same.false ∙ ap (symbols_at c.args.other.now) at) in
    mapped_alike (symbols_at c.args.one.now) (symbols_at c.args.other.now) lists i d c.loop-numbers-test.true c.loop-numbers.invariant here

pub returns : goal.returns
returns c = λ yes. mapped_whole (symbols_at c.args.one.now) (symbols_at c.args.other.now) c.args.lists.now c.loop-numbers.numbers-index c.loop-numbers-test.false c.loop-numbers.invariant
