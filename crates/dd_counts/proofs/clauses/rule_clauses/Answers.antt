use Rattle.std.proofs.Common.{◌+◌, ℕ, ap, ◌∙◌}
use Rattle.dd_expansion.specs.Leaves.{clause_count}
use Rattle.dd_formula.specs.{LocalRule.expansion_at, Counts.cut, Counts.over_nodes, lemmas.Cuts.next_cut, lemmas.Ranges.total_push}
use Rattle.dd_counts.proofs.clauses.rule_clauses.Goals as goal

pub loop-node-preserved : goal.loop-node-preserved
loop-node-preserved c =
    let at : ℕ → ℕ = λ a. clause_count (expansion_at c.args.rule.now a) in
    let n = c.loop-node.node in
    next_cut c.args.limit c.loop-node.clauses c.cut_off.result c.plus-clauses.result (over_nodes at n) (at n) (over_nodes at (n + 1))
    c.loop-node.invariant (c.cut_off.ensures ∙ ap (cut c.args.limit) c.clause_count.ensures) c.plus-clauses.ensures (total_push at n)
