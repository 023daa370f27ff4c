use Rattle.std.proofs.Common.{◌≡◌, List, ◌++◌, ◌∷◌, [], length, Some, None, map, take, ap, sym, ◌∙◌, subst}
use Rattle.std.proofs.lemmas.List.{take_all, map-append}
use Rattle.std.specs.Prelude.{is_some}
use Rattle.dd_lattice.specs.declared.position.Cell.{Cell}
use Rattle.dd_pattern.specs.Reading.{Look}
use Rattle.dd_expansion.specs.Leaves.{seen}
use Rattle.dd_formula.specs.{Values.are_given, valuing.Readable.IsSeen}
use Rattle.dd_formula.proofs.SeenLaws.{values_more, as_many, all_given, seen_filling}
use Rattle.dd_values.specs.lemmas.Lists.{some_fails}
use Rattle.dd_formula.proofs.values.filling_near.Goals as goal

pub loop-cell-init : goal.loop-cell-init
loop-cell-init g c = ap (map Some) c.in_ok-symbols.ensures.items

pub loop-cell-preserved : goal.loop-cell-preserved
loop-cell-preserved g c =
    let cells : List Cell = c.deref-cell-items.result.now in
    let look : Look = seen (g.R.Reads.symbols c.args.read.now) c.args.at.now in
    let here : Some c.in-Some.symbol ≡ look c.cell-item.result = sym c.in-Some.is ∙ c.symbol_seen.ensures in
    ap (map Some) c.in_ok-push.ensures.items
    ∙ (map-append Some c.loop-cell.symbols.items (c.in-Some.symbol ∷ [])
    ∙ (ap (λ xs. xs ++ Some c.in-Some.symbol ∷ []) c.loop-cell.invariant
    ∙ (ap (λ x. map look (take c.loop-cell.cell-index cells) ++ x ∷ []) here
    ∙ sym (values_more look cells c.loop-cell.cell-index c.cell-item.result c.loop-cell-test.true c.cell-item.is))))

pub new-requires-clause-as_many : goal.new-requires-clause-as_many
new-requires-clause-as_many g c =
    let cells : List Cell = c.deref-cell-items.result.now in
    let look : Look = seen (g.R.Reads.symbols c.args.read.now) c.args.at.now in
    let all : map Some c.loop-cell.symbols.items ≡ map look cells = c.loop-cell.invariant ∙ ap (map look) (take_all c.loop-cell.cell-index cells c.loop-cell-test.false) in
    as_many look cells c.loop-cell.symbols.items all ∙ ap length c.deref-cell-items.ensures.value

pub returns-in_default : goal.returns-in_default
returns-in_default g c =
    let cells : List Cell = c.deref-cell-items.result.now in
    let look : Look = seen (g.R.Reads.symbols c.args.read.now) c.args.at.now in
    let none : look c.cell-item.result ≡ None = sym c.symbol_seen.ensures ∙ c.in_default.is in
    ap (are_given (g.R.Reads.symbols c.args.read.now) c.args.at.now) (sym c.deref-cell-items.ensures.value)
    ∙ some_fails (λ d. is_some (look d)) cells c.loop-cell.cell-index c.cell-item.result c.loop-cell-test.true c.cell-item.is (ap is_some none)

pub returns : goal.returns
returns g c =
    let cells : List Cell = c.args.cells.items in
    let all_look : Look = g.R.Reads.symbols c.args.read.now in
    let look : Look = seen all_look c.args.at.now in
    let passed : map Some c.loop-cell.symbols.items ≡ map look c.deref-cell-items.result.now =
    c.loop-cell.invariant ∙ ap (map look) (take_all c.loop-cell.cell-index c.deref-cell-items.result.now c.loop-cell-test.false) in
    let all : map Some c.loop-cell.symbols.items ≡ map look cells = passed ∙ ap (map look) c.deref-cell-items.ensures.value in (
      all_given look cells c.loop-cell.symbols.items all,
      subst (IsSeen all_look c.args.at.now cells) (sym c.new.ensures) (seen_filling all_look c.args.at.now cells c.loop-cell.symbols.items c.requires all),
    )
