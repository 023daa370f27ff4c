use Rattle.std.proofs.{Common.ap, Common.sym, Common.◌∙◌, Common.subst, Common.arith, lemmas.Result.IfOk-weaker}
use Rattle.dd_pattern.specs.Tile.{Tile}
use Rattle.dd_formula.specs.{Automata.counted, Values.IsPlaced, declared.automaton.Automaton.Automaton, lemmas.AutomatonLaws.depth_composed}
use Rattle.dd_automaton.specs.Images.{IsDefinedOn, IsImage}
use Rattle.dd_automaton.proofs.ImageLaws.{defined_inner, defined_outer, image_composed}
use Rattle.dd_formula.specs.declared.automaton.Automaton.TheVariants as v
use Rattle.dd_automaton.proofs.image.+apply.Goals as goal

pub apply-requires : goal.apply-requires
apply-requires t c =
    let f = c.in-Composed.outer in
    let g = c.in-Composed.inner in
    let size = ap (λ (h : Automaton). (counted h).depth) c.in-Composed.is ∙ depth_composed f g in
    let second = ap (λ (h : Automaton). (counted h).depth) c.get-in-Composed.ensures in
    let whole : IsDefinedOn (v.Composed f g) c.args.periodic.now = subst (λ h. IsDefinedOn h c.args.periodic.now) c.in-Composed.is c.requires in (
      omega (arith, size, second, c.decreases),
      subst (λ h. IsDefinedOn h c.args.periodic.now) (sym c.get-in-Composed.ensures) (defined_inner f g c.args.periodic.now whole),
    )

pub apply-requires-in-Composed : goal.apply-requires-in-Composed
apply-requires-in-Composed t c =
    let f = c.in-Composed.outer in
    let g = c.in-Composed.inner in
    let between : Tile = c.in_ok-between-in-Composed.between in
    let size = ap (λ (h : Automaton). (counted h).depth) c.in-Composed.is ∙ depth_composed f g in
    let first = ap (λ (h : Automaton). (counted h).depth) c.get-in-Composed-2.ensures in
    let whole : IsDefinedOn (v.Composed f g) c.args.periodic.now = subst (λ h. IsDefinedOn h c.args.periodic.now) c.in-Composed.is c.requires in
    let image : IsImage g c.args.periodic.now between = subst (λ h. IsImage h c.args.periodic.now between) c.get-in-Composed.ensures c.in_ok-between-in-Composed.ensures in (
      omega (arith, size, first, c.decreases),
      subst (λ h. IsDefinedOn h between) (sym c.get-in-Composed-2.ensures) (defined_outer f g c.args.periodic.now between whole image),
    )

pub returns-in_ok-between-in-Composed : goal.returns-in_ok-between-in-Composed
returns-in_ok-between-in-Composed t c =
    let f = c.in-Composed.outer in
    let g = c.in-Composed.inner in
    let between : Tile = c.in_ok-between-in-Composed.between in
    let whole : IsDefinedOn (v.Composed f g) c.args.periodic.now = subst (λ h. IsDefinedOn h c.args.periodic.now) c.in-Composed.is c.requires in
    let image : IsImage g c.args.periodic.now between = subst (λ h. IsImage h c.args.periodic.now between) c.get-in-Composed.ensures c.in_ok-between-in-Composed.ensures in
    let placed : IsPlaced f = subst IsPlaced c.get.ensures c.reads_are_placed.ensures in
    IfOk-weaker c.apply-in-Composed.result _ _ (λ u h.
    subst (λ k. IsImage k c.args.periodic.now u) (sym c.in-Composed.is)
    (image_composed f g c.args.periodic.now between u whole placed image (subst (λ k. IsImage k between u) c.get-in-Composed-2.ensures h))) c.apply-in-Composed.ensures
