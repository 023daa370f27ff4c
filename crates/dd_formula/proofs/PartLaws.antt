-- The cells in the leaves of a rule's expansions are the cells that the rule reads. They show whether the rule is within the limit on reach. A rule
-- made from a well-formed formula is well formed if it is within the limits on instances and reach.
use Rattle.std.proofs.Common.{◌≡◌, ◌≤◌, ℕ, ◌⊎◌, inl, inr, true, false, [], ◌∷◌, map, sym, subst, ◌∙◌}
use Rattle.std.specs.List.{list_all}
use Rattle.dd_lattice.specs.InOrder.{in_order}
use Rattle.dd_topology.specs.{Grid.Grid, Grid.IsGrid, Sets.SymbolSets, Sets.IsSets}
use Rattle.dd_expansion.specs.{declared.formulas.Formula.Formula, Terms.origin_at, Leaves.leaf_cells, Limits.IsFormula}
use Rattle.dd_expansion.specs.lemmas.{LeafLaws.leaves_are_cells, LeavesAreReads.same_cells, LeavesAreReads.leaves_are_symbols}
use Rattle.dd_expansion.specs.lemmas.Placed.{reads_placed, origin_placed}
use Rattle.dd_formula.specs.LocalRule.{LocalRule, local_rule, at_nodes, expansion_at, reads_at, cells_at, is_near, IsSmall, ReadsNear, IsRule, IsFar}
use Rattle.dd_formula.specs.{Refusals.IsRuleRefusal, declared.fault.RuleFault.RuleFault}
use Rattle.dd_formula.specs.declared.fault.RuleFault.TheVariants.{Reach, Memory}
use Rattle.dd_formula.specs.lemmas.RuleLaws.{leaves_pass_reads}
use Rattle.dd_formula.proofs.Nodes.{at_nodes-alike, map-at_nodes, all_at_nodes, some_fails}

module _ (r : LocalRule) (some : 1 ≤ r.symbols) where
  pub reads_made : map (λ e. in_order (leaf_cells e)) (at_nodes (expansion_at r) r.nodes) ≡ at_nodes (cells_at r) r.nodes
  reads_made =
      map-at_nodes (λ e. in_order (leaf_cells e)) (expansion_at r) r.nodes
      ∙ at_nodes-alike (λ a. in_order (leaf_cells (expansion_at r a))) (cells_at r) (λ a. same_cells r.edges r.symbols some r.formula (origin_at a ∷ [])) r.nodes

  near_leaves : (a : ℕ) → list_all is_near (leaf_cells (expansion_at r a)) ≡ list_all is_near (reads_at r a)
  near_leaves a = sym (leaves_are_cells (expansion_at r a) is_near) ∙ leaves_pass_reads r some a is_near

  pub short_from : list_all (λ e. list_all is_near (leaf_cells e)) (at_nodes (expansion_at r) r.nodes) ≡ true → ReadsNear r
  short_from h a below = sym (near_leaves a) ∙ all_at_nodes (λ e. list_all is_near (leaf_cells e)) (expansion_at r) r.nodes h a below

  pub far_from : list_all (λ e. list_all is_near (leaf_cells e)) (at_nodes (expansion_at r) r.nodes) ≡ false → IsFar r
  far_from h =
      let found = some_fails (λ e. list_all is_near (leaf_cells e)) (expansion_at r) r.nodes h in
      record { node = found.node; exists = found.exists; far = sym (near_leaves found.node) ∙ found.fails }

  -- if the rule is within the limit on instances, then `Memory` is right for the rule, and `Reach` is right if the cell of some leaf lies too far
  -- away
  pub refused_from : (fault : RuleFault) → IsSmall r → (fault ≡ Memory) ⊎ ((fault ≡ Reach) × (list_all (λ e. list_all is_near (leaf_cells e)) (at_nodes (expansion_at r) r.nodes) ≡ false)) →
      IsRuleRefusal r fault
  refused_from fault small (inl is) = subst (IsRuleRefusal r) (sym is) tt
  refused_from fault small (inr far) = subst (IsRuleRefusal r) (sym far.0) (small, far_from far.1)

pub rule_from : (g : Grid) (s : SymbolSets) (f : Formula) → IsGrid g → IsSets g.nodes s → g.nodes ≤ 4 → s.symbols ≤ 16 → IsFormula g s.symbols f →
    IsSmall (local_rule g s f) → ReadsNear (local_rule g s f) → IsRule (local_rule g s f)
rule_from g s f grid sets few symbols formula small short = record {
  dimension = grid.dimension;
  nodes = (grid.nodes, few);
  symbols = (sets.symbols, symbols);
  allowed = sets;
  small = small;
  short = short;
  placed = λ a below. reads_placed g grid f (origin_at a ∷ []) (origin_placed g a below);
  known = λ a below. leaves_are_symbols g s.symbols f g.edges (origin_at a ∷ []) 1 formula.numbers;
}
