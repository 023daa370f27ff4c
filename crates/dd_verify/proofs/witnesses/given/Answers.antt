use Rattle.std.proofs.{Common.◌<◌, Common.[], Common.◌∷◌, Common.sym, Common.subst, Common.◌∙◌, lemmas.Bool.false≢true}
use Rattle.std.specs.List.{All}
use Rattle.dd_pattern.specs.{Periods.periods_of, Tile.tile}
use Rattle.dd_verify.proofs.Giving.{made_tile, given_made, given_not_made, not_within}
use Rattle.dd_verify.proofs.witnesses.given.Goals as goal

pub returns-then-not-are_periods : goal.returns-then-not-are_periods
returns-then-not-are_periods c =
    not_within c.args.premise.now c.args.most c.args.periods.now c.args.shear c.args.symbols.now c.dim.result c.dim.ensures
    (λ h. false≢true (sym c.if-not-are_periods.true ∙ c.are_periods.ensures.1 h))

pub returns-in-None : goal.returns-in-None
returns-in-None c given =
    let none = rw c.in-None.is at c.in_ok-narrowed.ensures in
    none (subst (λ k. All (λ s. s < k) c.args.symbols.now) (sym c.symbols.ensures.value) given.fits.symbols)

pub returns-in-Ok : goal.returns-in-Ok
returns-in-Ok c =
    let x = c.args.premise.now in
    let narrowed = rw c.in-Some.is at c.in_ok-narrowed.ensures in
    let axes = c.along.result ∷ c.along-2.result ∷ c.along-3.result ∷ [] in
    given_made x c.args.most c.args.periods.now c.args.shear c.args.symbols.now c.nodes-nodes.ensures.kept c.requires.1 c.dim.result c.dim.ensures
    (c.are_periods.ensures.0 c.if-not-are_periods.false)
    (subst (λ k. All (λ s. s < k) c.args.symbols.now) c.symbols.ensures.value narrowed.1)
    (tile c.dim-in-Some.result (periods_of axes c.args.shear) c.nodes-nodes.result c.in-Some.list.items)
    (made_tile x c.args.periods.now c.args.shear c.dim-in-Some.result c.nodes-nodes.result c.along.result c.along-2.result c.along-3.result
    c.in-Some.list.items c.args.symbols.now c.dim-in-Some.ensures c.nodes-nodes.ensures.value c.along.ensures c.along-2.ensures c.along-3.ensures narrowed.0)
    c.in-Ok.periodic c.in-Ok.ensures.0 c.in-Ok.ensures.1

pub returns : goal.returns
returns c =
    let x = c.args.premise.now in
    let narrowed = rw c.in-Some.is at c.in_ok-narrowed.ensures in
    let axes = c.along.result ∷ c.along-2.result ∷ c.along-3.result ∷ [] in
    given_not_made x c.args.most c.args.periods.now c.args.shear c.args.symbols.now c.nodes-nodes.ensures.kept c.requires.1 c.dim.result c.dim.ensures
    (c.are_periods.ensures.0 c.if-not-are_periods.false)
    (subst (λ k. All (λ s. s < k) c.args.symbols.now) c.symbols.ensures.value narrowed.1)
    (tile c.dim-in-Some.result (periods_of axes c.args.shear) c.nodes-nodes.result c.in-Some.list.items)
    (made_tile x c.args.periods.now c.args.shear c.dim-in-Some.result c.nodes-nodes.result c.along.result c.along-2.result c.along-3.result
    c.in-Some.list.items c.args.symbols.now c.dim-in-Some.ensures c.nodes-nodes.ensures.value c.along.ensures c.along-2.ensures c.along-3.ensures narrowed.0)
    c.in-Err.ensures.1
