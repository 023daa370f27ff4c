use Rattle.dd_formula.specs.lemmas.FirstCells.{not_both}
use Rattle.dd_verify.proofs.{PlaceLaws.outside_at, Deciding.nothing_holds}
use Rattle.dd_verify.proofs.places.is_outside.Goals as goal

pub returns-in-Inside : goal.returns-in-Inside
returns-in-Inside c =
    nothing_holds _
    (λ at. not_both c.args.rule.now c.args.periodic.now c.symbols-symbols.ensures.kept.tile c.requires at.0 at.1 c.in-Inside.ensures)

pub returns-in-Outside : goal.returns-in-Outside
returns-in-Outside c =
    outside_at c.args.rule.now c.args.periodic.now c.in-Outside.cell c.dim.result c.args.place.now c.is_place.result c.dim.ensures c.in-Outside.ensures
    c.is_place.ensures
