use Rattle.std.proofs.Common.{◌≡◌, ◌<◌, ◌≤◌, subst, get_or, arith, ap, ◌∙◌, [], ◌∷◌}
use Rattle.dd_lattice.specs.Cells.{cell}
use Rattle.dd_expansion.specs.{Terms.origin_at, lemmas.LeavesAreReads.same_cells}
use Rattle.dd_formula.specs.{LocalRule.LocalRule, LocalRule.kept_rule, LocalRule.expansion_at, lemmas.RuleLaws.at_cell}
use Rattle.dd_formula.proofs.Nodes.{get_or-at_nodes}
use Rattle.dd_formula.proofs.rule.Rule.expansion.Goals as goal

pub returns-clause-value : goal.returns-clause-value
returns-clause-value c =
    let i = c.self.inside in
    let r : LocalRule = kept_rule i.dim i.nodes i.sets i.edges i.formula in
    let below : c.args.node < i.nodes = (let same : i.nodes ≡ c.args.self.now.nodes = ap (λ s. s.nodes) c.self.view_is in omega (arith, c.requires)) in
    rw (← c.self.view_is) (c.index.ensures ∙ (ap (λ xs. get_or xs c.args.node c.index.result.now) c.self.invariant.expansions ∙ get_or-at_nodes (expansion_at r) i.nodes c.args.node _ below))

pub returns-clause-truth : goal.returns-clause-truth
returns-clause-truth c = λ look below v. rw (returns-clause-value c) (at_cell c.args.self.now (cell v c.args.node) look below)

pub returns-clause-cells : goal.returns-clause-cells
returns-clause-cells c =
    let r = c.args.self.now in
    let some : 1 ≤ r.symbols = subst (λ s. 1 ≤ s.symbols) c.self.view_is c.self.invariant.rule.symbols.0 in
    rw (returns-clause-value c) (same_cells r.edges r.symbols some r.formula (origin_at c.args.node ∷ []))
