use Rattle.std.proofs.Common.{◌≡◌, ◌<◌, ◌≤◌, ℕ, [], ◌∷◌, add-one, refl, ap, sym, ◌∙◌, subst, arith}
use borrow.Author.Count.{below_more}
use Rattle.dd_expansion.specs.{Terms.origin_at, Expansion.expansion, Leaves.instances, Limits.IsFormula}
use Rattle.dd_formula.specs.LocalRule.{local_rule, expansion_at}
use Rattle.dd_formula.proofs.making.expand_at_nodes.Goals as goal

pub loop-node-preserved : goal.loop-node-preserved
loop-node-preserved c =
    let r = local_rule c.args.topology.now c.args.sets.now c.args.formula.now in
    let node = c.loop-node.node in
    let is : c.in-Ok.expansion ≡ expansion_at r node =
    c.in-Ok.ensures.ok ∙ ap (λ n. expansion r.edges n r.formula (origin_at node ∷ [])) c.symbols-symbols.ensures.value in
    let few : instances (expansion_at r node) ≤ 20000 = omega (arith, c.in-Ok.ensures.few, ap instances is) in
    record {
      made = rw (c.in_ok-push-in-Ok.ensures.ok, c.loop-node.invariant.made, is, add-one) refl;
      small = below_more (λ (a : ℕ). instances (expansion_at r a) ≤ 20000) node c.loop-node.invariant.small few;
    }

pub expand-requires : goal.expand-requires
expand-requires c = subst (λ n. IsFormula c.args.topology.now n c.args.formula.now) (sym c.symbols-symbols.ensures.value) c.requires

pub returns-in-Err-Instances-clause-err : goal.returns-in-Err-Instances-clause-err
returns-in-Err-Instances-clause-err c =
    let r = local_rule c.args.topology.now c.args.sets.now c.args.formula.now in
    let node = c.loop-node.node in
    let many = c.in-Err-Instances.ensures.err c.in-Err-Instances.field-0-is in
    record {
      node = node;
      exists = subst (λ n. node < n) c.nodes-node-end.ensures.value c.loop-node-test.true;
      many = subst (λ n. 20000 < instances (expansion r.edges n r.formula (origin_at node ∷ []))) c.symbols-symbols.ensures.value many;
    }
