use Rattle.std.proofs.Common.{◌≡◌, ◌+◌, ◌*◌, suc, length, ap, ◌∙◌, arith}
use Rattle.dd_expansion.specs.Limits.{greatest}
use Rattle.dd_formula.specs.Counts.{cut, place_clauses}
use Rattle.dd_boxes.specs.Counts.{most_clauses}
use Rattle.dd_question.specs.Tori.{positions_in}
use Rattle.dd_question.proofs.TorusLaws.{clauses_cut}
use Rattle.dd_question.proofs.tori.weight_clauses.Goals as goal

pub returns : goal.returns
returns c =
    let x = c.args.rule.now in
    let ws = c.args.weights.now in
    let symbols : 4 * c.symbols-symbols.result + 1 ≡ suc (4 * length ws) = omega (arith, c.symbols-symbols.ensures.value, c.requires) in
    let heaviest = c.times-heaviest.result in
    clauses_cut most_clauses (positions_in c.args.periods) (place_clauses x) x.nodes (greatest ws) (suc (4 * length ws))
    c.positions_in.result c.place_clauses-place.result c.times-torus.result c.cells_in-cells.result heaviest c.times-each.result c.times-gates.result _ c.plus-2.result
    c.positions_in.ensures c.place_clauses-place.ensures c.times-torus.ensures c.cells_in-cells.ensures
    (c.times-heaviest.ensures ∙ ap (λ g. cut most_clauses (c.cells_in-cells.result * g)) c.greatest.ensures)
    (c.times-each.ensures ∙ ap (λ s. cut most_clauses (heaviest * s)) symbols)
    c.times-gates.ensures c.plus.ensures c.plus-2.ensures
