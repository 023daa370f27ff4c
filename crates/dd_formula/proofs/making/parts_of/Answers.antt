use Rattle.std.proofs.Common.{◌≡◌, true, false, ap, sym, subst, ◌∙◌, ◌⊎◌, map}
use Rattle.std.specs.List.{list_all}
use Rattle.dd_lattice.specs.InOrder.{in_order}
use Rattle.dd_topology.specs.Sets.{IsSets}
use Rattle.dd_expansion.specs.{declared.expanded.Expanded.Expanded, Leaves.leaf_cells}
use Rattle.dd_formula.specs.declared.fault.RuleFault.TheVariants.{Reach, Memory}
use Rattle.dd_formula.specs.LocalRule.{local_rule, at_nodes, expansion_at, is_near}
use Rattle.dd_formula.proofs.PartLaws.{reads_made, short_from, refused_from, rule_from}
use Rattle.dd_formula.proofs.making.parts_of.Goals as goal

pub returns-in-Ok-clause-ok : goal.returns-in-Ok-clause-ok
returns-in-Ok-clause-ok c =
    let g = c.args.topology.now in
    let r = local_rule g c.args.sets.now c.args.formula.now in
    let sets : IsSets g.nodes c.args.sets.now = subst (λ n. IsSets n c.args.sets.now) c.requires.sets c.copy.ensures.kept in
    let some = sets.symbols in
    let listed : c.as_slice.result.now ≡ at_nodes (expansion_at r) r.nodes = c.as_slice.ensures ∙ c.in_ok-expansions.ensures.ok in
    let near : list_all (λ e. list_all is_near (leaf_cells e)) (at_nodes (expansion_at r) r.nodes) ≡ true =
    sym (ap (list_all (λ (e : Expanded). list_all is_near (leaf_cells e))) listed) ∙ c.in-Ok.ensures.near in
    record {
      rule = rule_from g c.args.sets.now c.args.formula.now c.edges.ensures.grid sets c.requires.nodes c.requires.symbols c.requires.formula c.in_ok-expansions.ensures.small (short_from r some near);
      expansions = c.in_ok-expansions.ensures.ok;
      reads = c.in-Ok.ensures.ok ∙ (ap (map (λ (e : Expanded). in_order (leaf_cells e))) listed ∙ reads_made r some);
    }

pub returns-in-Err-clause-err : goal.returns-in-Err-clause-err
returns-in-Err-clause-err c =
    let g = c.args.topology.now in
    let r = local_rule g c.args.sets.now c.args.formula.now in
    let listed : c.as_slice.result.now ≡ at_nodes (expansion_at r) r.nodes = c.as_slice.ensures ∙ c.in_ok-expansions.ensures.ok in
    let far : (c.in-Err.fault ≡ Memory) ⊎ ((c.in-Err.fault ≡ Reach) × (list_all (λ e. list_all is_near (leaf_cells e)) (at_nodes (expansion_at r) r.nodes) ≡ false)) =
    subst (λ xs. (c.in-Err.fault ≡ Memory) ⊎ ((c.in-Err.fault ≡ Reach) × (list_all (λ e. list_all is_near (leaf_cells e)) xs ≡ false))) listed c.in-Err.ensures.err in
    refused_from r c.copy.ensures.kept.symbols c.in-Err.fault c.in_ok-expansions.ensures.small far
