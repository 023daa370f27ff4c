use Rattle.std.proofs.Common.{◌≡◌, ◌++◌, List, [], ℕ, ap, sym, subst, ◌∙◌, map}
use Rattle.std.specs.List.Sorted.{IsStrictlySortedBy}
use Rattle.dd_lattice.specs.{Order.cell_cmp, declared.position.Cell.Cell}
use Rattle.dd_pattern.specs.Filling.{Filled, filled}
use Rattle.dd_topology.specs.lemmas.OrderLaws.{sorted-in_order}
use Rattle.dd_formula.specs.LocalRule.{cells_at, reads_at}
use Rattle.dd_forbidden.specs.{listing.Extensions.extensions, listing.Extensions.AreOf, lemmas.SayingLaws.says_rule, lemmas.SayingLaws.reads_of_nodes}
use Rattle.dd_forbidden.proofs.ExtensionLaws.{breaking_fillings}
use Rattle.dd_forbidden.proofs.breaking.forbidden.Goals as goal

pub new-ranks-requires : goal.new-ranks-requires
new-ranks-requires c = subst (IsStrictlySortedBy cell_cmp) (sym c.reads-cells.ensures.value) (sorted-in_order (reads_at c.args.rule.now c.args.node))

pub extend-requires-clause-formula : goal.extend-requires-clause-formula
extend-requires-clause-formula c =
    let ranked : c.new-ranks.result.cells.now ≡ cells_at c.args.rule.now c.args.node =
    c.new-ranks.ensures ∙ c.reads-cells.ensures.value in
    says_rule c.args.rule.now c.args.node c.in_ok-formula.formula c.expansion-expansion.result.now c.new-ranks.result.cells.now c.expansion-expansion.ensures.truth ranked
    c.in_ok-formula.ensures.truth

pub extend-requires-clause-rest : goal.extend-requires-clause-rest
extend-requires-clause-rest c =
    let r = c.args.rule.now in
    subst (AreOf r) (sym c.reads-cells.ensures.value) (reads_of_nodes r c.expansion-expansion.ensures.kept c.args.node c.requires)

pub returns-clause-ok : goal.returns-clause-ok
returns-clause-ok c =
    let r = c.args.rule.now in
    let a = c.args.node in
    let cells : c.reads-cells.result.now ≡ cells_at r a = c.reads-cells.ensures.value in
    let listed : List Cell → List ℕ → List Filled = λ cs ss. map (filled (cells_at r a)) (extensions r a cs ss) in
    record {
      symbols = extensions r a (cells_at r a) [];
      fillings = c.into_vec.ensures
          ∙ (c.in_ok-extend.ensures.found
          ∙ (ap (λ (fs : List Filled). fs ++ listed c.reads-cells.result.now c.new-symbols.result) c.new-found.ensures
          ∙ (ap (λ cs. listed cs c.new-symbols.result) cells ∙ ap (listed (cells_at r a)) c.new-symbols.ensures)));
      breaking = breaking_fillings r c.expansion-expansion.ensures.kept a;
      few = sym c.is_large.ensures ∙ c.if-is_large.false;
    }
