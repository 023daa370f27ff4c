use Rattle.std.proofs.Common.{◌≡◌, ◌*◌, ◌++◌, ◌∷◌, [], map, ap, sym, ◌∙◌, arith}
use Rattle.std.specs.{Prelude.◌-◌, List.range_with_len}
use Rattle.dd_lattice.specs.Boxes.{volume}
use Rattle.dd_problem.specs.{Layouts.nth_cell, lemmas.CellOrder.cells_by_number}
use Rattle.dd_problem.specs.lemmas.RangesLeft.{range_to, left_step, left_ends}
use Rattle.dd_problem.proofs.layouts.cells_of.Goals as goal

pub loop-number-preserved : goal.loop-number-preserved
loop-number-preserved c =
    left_step (nth_cell c.args.bounds.now c.args.nodes) (map (nth_cell c.args.bounds.now c.args.nodes) (range_to 0 (c.volume.result * c.from.result))) c.loop-number.cells.items
    c.push.new.self.items c.loop-number.number (c.volume.result * c.from.result) c.loop-number-test.true c.loop-number.invariant
    (c.in_ok-push.ensures.items ∙ ap (λ d. c.loop-number.cells.items ++ d ∷ []) c.nth_cell.ensures)

pub returns : goal.returns
returns c =
    let b = c.args.bounds.now in
    let nodes = c.args.nodes in
    let count = c.volume.result * c.from.result in
    let all : count ≡ volume b * nodes = ap (λ v. v * c.from.result) c.volume.ensures.value ∙ ap (λ k. volume b * k) c.from.ensures in
    let whole : count - 0 ≡ count = omega arith in
    left_ends (nth_cell b nodes) (map (nth_cell b nodes) (range_to 0 count)) c.loop-number.cells.items c.loop-number.number count c.loop-number-test.false c.loop-number.invariant
    ∙ (ap (λ k. map (nth_cell b nodes) (range_with_len 0 k)) (whole ∙ all) ∙ sym (cells_by_number b nodes))
