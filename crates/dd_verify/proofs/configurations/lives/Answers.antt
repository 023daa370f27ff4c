use Rattle.dd_formula.specs.lemmas.FirstCells.{not_both}
use Rattle.dd_verify.proofs.Deciding.{nothing_holds}
use Rattle.dd_verify.proofs.configurations.lives.Goals as goal

pub returns-in-Outside : goal.returns-in-Outside
returns-in-Outside c =
    nothing_holds _
    (not_both c.args.rule.now c.args.periodic.now c.symbols-symbols.ensures.kept.tile c.requires c.in-Outside.field-0 c.in-Outside.ensures)
