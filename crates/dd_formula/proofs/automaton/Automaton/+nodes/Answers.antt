use Rattle.std.proofs.Common.{◌∙◌, ap, sym, subst}
use Rattle.dd_formula.specs.{Automata.automaton_fits, Automata.has_rules, Automata.IsNodesOf, declared.automaton.Automaton.Automaton}
use Rattle.dd_formula.specs.lemmas.AutomatonLaws.{nodes_given, nodes_outer, nodes_inner}
use Rattle.dd_formula.specs.declared.automaton.Automaton.TheVariants as v
use Rattle.dd_formula.proofs.automaton.Automaton.+nodes.Goals as goal

pub returns-in-Given : goal.returns-in-Given
returns-in-Given t c = subst (λ (f : Automaton). IsNodesOf f c.nodes.result) (sym c.in-Given.is) (nodes_given c.in-Given.cases c.nodes.result c.nodes.ensures)

pub returns-in-Some : goal.returns-in-Some
returns-in-Some t c s fit =
    nodes_outer c.get.result.now c.in-Composed.inner c.in-Some.nodes c.in-Some.ensures s
    (ap (automaton_fits s) (ap (λ (f : Automaton). v.Composed f c.in-Composed.inner) c.get.ensures ∙ sym c.in-Composed.is) ∙ fit)

pub returns-in-None : goal.returns-in-None
returns-in-None t c =
    subst (λ (f : Automaton). IsNodesOf f c.nodes-in-None.result) (sym c.in-Composed.is)
    (nodes_inner c.in-Composed.outer c.in-Composed.inner c.nodes-in-None.result
    (ap has_rules (sym c.get.ensures) ∙ c.in-None.ensures)
    (subst (λ (f : Automaton). IsNodesOf f c.nodes-in-None.result) c.get-in-None.ensures c.nodes-in-None.ensures))
