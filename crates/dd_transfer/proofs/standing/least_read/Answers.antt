use Rattle.std.proofs.Common.{◌≡◌, ℕ, ℤ, pos, to_z, of_z, w32, ap, sym, ◌∙◌, arith, rules}
use Rattle.std.specs.{List.flat_map, List.range_with_len, Int.int_min}
use Rattle.dd_lattice.specs.declared.position.Cell.{Cell}
use Rattle.dd_formula.specs.{LocalRule.cells_at, Reach.all_cells, lemmas.Ranges.fold_push}
use Rattle.dd_counts.specs.Rules.{least_x}
use Rattle.dd_transfer.proofs.standing.least_read.Goals as goal

pub loop-node-preserved : goal.loop-node-preserved
loop-node-preserved c =
    let rule = c.args.rule.now in
    let n = c.loop-node.node in
    let lo : ℤ = to_z w32 c.loop-node.least-bits in
    let low : to_z w32 (of_z w32 c.least_x-least.result) ≡ c.least_x-least.result = search rules in
    low
    ∙ (c.least_x-least.ensures
    ∙ (ap (least_x lo) c.reads.ensures.value
    ∙ (ap (λ z. least_x z (cells_at rule n)) c.loop-node.invariant ∙ sym (fold_push (λ z (d : Cell). int_min z d.position.x) (pos 0) (cells_at rule) n))))

pub returns-clause-value : goal.returns-clause-value
returns-clause-value c =
    let rule = c.args.rule.now in
    let all : c.loop-node.node ≡ rule.nodes = omega (arith, c.loop-node-test.false, c.loop-node.auto.node-end, c.nodes-node-end.ensures.value) in
    c.loop-node.invariant ∙ ap (λ k. least_x (pos 0) (flat_map (cells_at rule) (range_with_len 0 k))) all
