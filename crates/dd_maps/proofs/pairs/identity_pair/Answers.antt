use Rattle.std.proofs.{Common.ap, Common.sym, Common.◌∙◌, Common.subst, lemmas.Result.err_from_is_err_and}
use Rattle.std.specs.Prelude.{◌↔◌}
use Rattle.dd_formula.specs.{Automata.IsAutomaton, ByCases.numbers_over, declared.automaton.Automaton.TheVariants.Composed}
use Rattle.dd_maps.specs.{Pairs.identity, Images.DifferAt, Images.ChangesAt, Images.Differ, Images.Changes}
use Rattle.dd_maps.specs.lemmas.PairLaws.{identity_differs_at, identity_differs}
use Rattle.dd_maps.proofs.Cases.{of_pair}
use Rattle.dd_maps.proofs.pairs.identity_pair.Goals as goal

pub returns-in_err-composed-clause-fault : goal.returns-in_err-composed-clause-fault
returns-in_err-composed-clause-fault c =
    let p = err_from_is_err_and c.from_residual-in_err-composed.result c.from_residual-in_err-composed.ensures.1 in
    let fault = rw c.in_ok-first.ensures at c.in_err-composed.ensures.fault in
    rw (p.1, p.2) (fault (numbers_over c.args.topology.now c.args.sets.now) c.requires.outer c.requires.inner)

pub returns-clause-formed : goal.returns-clause-formed
returns-clause-formed c =
    let n = numbers_over c.args.topology.now c.args.sets.now in
    let first_formed = subst (IsAutomaton n) (sym c.in_ok-first.ensures) c.requires.outer in (
      subst (IsAutomaton n) (sym c.in_ok-composed.ensures.ok) (c.in_ok-composed.ensures.formed n first_formed c.requires.inner),
      subst (IsAutomaton n) (sym c.in_ok-identity.ensures.ok) c.in_ok-identity.ensures.formed,
    )

pub returns-clause-cells : goal.returns-clause-cells
returns-clause-cells c = λ look at has.
    let g = c.args.topology.now in
    let s = c.args.sets.now in
    let f = c.args.outer.now in
    let h = c.args.inner.now in
    of_pair (λ k z. DifferAt k z look at ↔ ChangesAt f h look at) c.in_ok-composed.composed c.in_ok-identity.identity (Composed f h) (identity g s)
    (c.in_ok-composed.ensures.ok ∙ ap (λ k. Composed k h) c.in_ok-first.ensures) c.in_ok-identity.ensures.ok
    (identity_differs_at g s f h look at has)

pub returns-clause-positions : goal.returns-clause-positions
returns-clause-positions c = λ look v has.
    let g = c.args.topology.now in
    let s = c.args.sets.now in
    let f = c.args.outer.now in
    let h = c.args.inner.now in
    of_pair (λ k z. Differ g.nodes k z look v ↔ Changes g.nodes f h look v) c.in_ok-composed.composed c.in_ok-identity.identity (Composed f h) (identity g s)
    (c.in_ok-composed.ensures.ok ∙ ap (λ k. Composed k h) c.in_ok-first.ensures) c.in_ok-identity.ensures.ok
    (identity_differs g s f h look v has)
