use Rattle.std.proofs.Common.{◌≡◌, ℕ, ◌<◌, ◌≤◌}
use Rattle.dd_expansion.specs.Leaves.{instances}
use Rattle.dd_formula.specs.LocalRule.{local_rule, at_nodes, expansion_at}
use Rattle.dd_formula.proofs.making.expand_at_nodes.Given as goal

-- the expansions at the nodes before this one, each with at most 20,000 instances
abbrev pub invariant-loop-node : goal.invariant-loop-node
invariant-loop-node l =
    let r = local_rule l.topology l.sets l.formula in
    record {
      made : l.expansions ≡ at_nodes (expansion_at r) l.node;
      small : (a : ℕ) → a < l.node → instances (expansion_at r a) ≤ 20000;
    }
