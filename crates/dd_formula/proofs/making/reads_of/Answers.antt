use Rattle.std.proofs.Common.{◌≡◌, refl, ap, sym, ◌∙◌, inr}
use Rattle.std.specs.List.{list_all}
use Rattle.dd_lattice.specs.lemmas.InOrderLaws.{list_all-in_order}
use Rattle.dd_expansion.specs.Leaves.{leaf_cells}
use Rattle.dd_formula.specs.LocalRule.{is_near}
use Rattle.dd_formula.proofs.making.reads_of.Goals as goal

pub returns-then-not-are_near-clause-err : goal.returns-then-not-are_near-clause-err
returns-then-not-are_near-clause-err c =
    let cs = leaf_cells c.args.expansion.now in
    let listed = c.deref.ensures.value ∙ c.in_ok-cells.ensures.list in
    let told : list_all is_near cs ≡ c.are_near.result = sym (c.are_near.ensures ∙ (ap (list_all is_near) listed ∙ list_all-in_order is_near cs)) in
    let test = c.if-not-are_near.true in
    inr (refl, (cc))

pub returns-clause-near : goal.returns-clause-near
returns-clause-near c =
    let cs = leaf_cells c.args.expansion.now in
    let listed = c.deref.ensures.value ∙ c.in_ok-cells.ensures.list in
    let told : list_all is_near cs ≡ c.are_near.result = sym (c.are_near.ensures ∙ (ap (list_all is_near) listed ∙ list_all-in_order is_near cs)) in
    let test = c.if-not-are_near.false in
    cc
