use Rattle.std.proofs.{Common.◌+◌, Common.ℕ, Common.map, Common.arith, lemmas.Grind.common_steps}
use Rattle.std.specs.List.{range_with_len}
use Rattle.dd_expansion.specs.Leaves.{total}
use Rattle.dd_formula.specs.{ValueCounts.differ_at, lemmas.Cuts.next_cut, lemmas.Ranges.total_push}
use Rattle.dd_counts.proofs.values.differ_clauses.Goals as goal

pub loop-node-preserved : goal.loop-node-preserved
loop-node-preserved c =
    let at : ℕ → ℕ = differ_at c.args.symbols c.args.first.now c.args.second.now in
    let n = c.loop-node.node in
    let sum : ℕ → ℕ = λ k. total (map at (range_with_len 0 k)) in
    let more = total_push at n in
    next_cut c.args.limit c.loop-node.sum c.in_ok-here.here c.plus-sum.result (sum n + 1) (at n) (sum (n + 1) + 1)
    c.loop-node.invariant c.in_ok-here.ensures c.plus-sum.ensures (omega (arith, more))

pub differ_at-requires-clause-node : goal.differ_at-requires-clause-node
differ_at-requires-clause-node c = grind (arith, common_steps)
