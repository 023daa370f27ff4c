use Rattle.std.proofs.Common.{◌≡◌, ◌<◌, get_or, arith, ap, ◌∙◌}
use Rattle.dd_formula.specs.LocalRule.{LocalRule, kept_rule, cells_at}
use Rattle.dd_formula.proofs.Nodes.{get_or-at_nodes}
use Rattle.dd_formula.proofs.rule.Rule.reads.Goals as goal

pub returns-clause-value : goal.returns-clause-value
returns-clause-value c =
    let i = c.self.inside in
    let r : LocalRule = kept_rule i.dim i.nodes i.sets i.edges i.formula in
    let below : c.args.node < i.nodes = (let same : i.nodes ≡ c.args.self.now.nodes = ap (λ s. s.nodes) c.self.view_is in omega (arith, c.requires)) in
    rw (← c.self.view_is) (c.as_slice.ensures ∙ (c.index.ensures ∙ (ap (λ xs. get_or xs c.args.node c.index.result.now) c.self.invariant.reads ∙ get_or-at_nodes (cells_at r) i.nodes c.args.node _ below)))
