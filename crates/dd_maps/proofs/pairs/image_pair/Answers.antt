use Rattle.std.proofs.{Common.ap, Common.sym, Common.◌∙◌, Common.subst, lemmas.Result.err_from_is_err_and}
use Rattle.std.specs.Prelude.{◌↔◌}
use Rattle.dd_formula.specs.{Automata.IsAutomaton, ByCases.numbers_over, declared.automaton.Automaton.TheVariants.Composed}
use Rattle.dd_maps.specs.{Pairs.marked, Pairs.always_zero, Images.DifferAt, Images.BreaksAt, Images.Differ, Images.ImageBreaks}
use Rattle.dd_maps.specs.lemmas.PairLaws.{image_differs_at, image_differs}
use Rattle.dd_maps.proofs.{Cases.of_pair, Faults.marked_to_image, Faults.composed_to_image}
use Rattle.dd_maps.proofs.pairs.image_pair.Goals as goal

pub returns-in_err-marked-clause-fault : goal.returns-in_err-marked-clause-fault
returns-in_err-marked-clause-fault c =
    let p = err_from_is_err_and c.from_residual.result c.from_residual.ensures.1 in
    rw (p.1, p.2) (marked_to_image c.args.topology.now c.args.sets.now c.args.target.now c.args.map.now _ c.in_err-marked.ensures.fault)

pub returns-in_err-composed-clause-fault : goal.returns-in_err-composed-clause-fault
returns-in_err-composed-clause-fault c =
    let g = c.args.topology.now in
    let s = c.args.sets.now in
    let y = c.args.target.now in
    let p = err_from_is_err_and c.from_residual-in_err-composed.result c.from_residual-in_err-composed.ensures.1 in
    let fault = rw c.in_ok-marked.ensures.ok at c.in_err-composed.ensures.fault in
    rw (p.1, p.2) (composed_to_image g s y c.args.map.now _ c.in_ok-marked.ensures.shallow (fault (numbers_over g s) c.in_ok-marked.ensures.formed c.requires.map))

pub returns-clause-formed : goal.returns-clause-formed
returns-clause-formed c =
    let n = numbers_over c.args.topology.now c.args.sets.now in
    let marked_formed = subst (IsAutomaton n) (sym c.in_ok-marked.ensures.ok) c.in_ok-marked.ensures.formed in (
      subst (IsAutomaton n) (sym c.in_ok-composed.ensures.ok) (c.in_ok-composed.ensures.formed n marked_formed c.requires.map),
      subst (IsAutomaton n) (sym c.in_ok-zero.ensures.ok) c.in_ok-zero.ensures.formed,
    )

pub returns-clause-cells : goal.returns-clause-cells
returns-clause-cells c = λ look at below.
    let g = c.args.topology.now in
    let s = c.args.sets.now in
    let y = c.args.target.now in
    let f = c.args.map.now in
    of_pair (λ h z. DifferAt h z look at ↔ BreaksAt f y look at) c.in_ok-composed.composed c.in_ok-zero.zero (Composed (marked g s y) f) (always_zero g s)
    (c.in_ok-composed.ensures.ok ∙ ap (λ h. Composed h f) c.in_ok-marked.ensures.ok) c.in_ok-zero.ensures.ok
    (image_differs_at g s y c.requires.target f c.requires.map.fits look at below)

pub returns-clause-positions : goal.returns-clause-positions
returns-clause-positions c = λ look v.
    let g = c.args.topology.now in
    let s = c.args.sets.now in
    let y = c.args.target.now in
    let f = c.args.map.now in
    of_pair (λ h z. Differ g.nodes h z look v ↔ ImageBreaks f y look v) c.in_ok-composed.composed c.in_ok-zero.zero (Composed (marked g s y) f) (always_zero g s)
    (c.in_ok-composed.ensures.ok ∙ ap (λ h. Composed h f) c.in_ok-marked.ensures.ok) c.in_ok-zero.ensures.ok
    (image_differs g s y c.requires.target f c.requires.map.fits look v)
