use Rattle.std.proofs.Common.{◌++◌, ◌∷◌, [], List, map, take, ap, sym, ◌∙◌}
use Rattle.std.proofs.lemmas.List.{append_assoc}
use Rattle.dd_lattice.specs.{Cells.shifted, declared.position.Cell.Cell}
use Rattle.dd_formula.specs.{LocalRule.is_near, lemmas.AutomatonLaws.passes_at}
use Rattle.dd_formula.proofs.SeenLaws.{values_more}
use Rattle.dd_formula.proofs.shifting.push_shifted.Goals as goal

pub shifted-requires-clause-near : goal.shifted-requires-clause-near
shifted-requires-clause-near c = passes_at is_near c.args.cells.now c.loop-cell.cell-index c.cell-item.result c.requires.near c.loop-cell-test.true c.cell-item.is

pub loop-cell-preserved : goal.loop-cell-preserved
loop-cell-preserved c =
    let cells : List Cell = c.args.cells.now in
    let made : Cell → Cell = shifted c.args.by.now in
    let before = map made (take c.loop-cell.cell-index cells) in
    let one = c.shifted.result ∷ [] in
    c.in_ok-push.ensures.items
    ∙ (ap (λ l. l ++ one) c.loop-cell.invariant
    ∙ (append_assoc c.args.found.now.items before one
    ∙ ap (λ l. c.args.found.now.items ++ l) (ap (λ x. before ++ x ∷ []) c.shifted.ensures
    ∙ sym (values_more made cells c.loop-cell.cell-index c.cell-item.result c.loop-cell-test.true c.cell-item.is))))
