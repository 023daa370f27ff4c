use Rattle.dd_formula.specs.lemmas.Reached.{tile_below}
use Rattle.dd_verify.proofs.Periodics.{origin_told}
use Rattle.dd_verify.proofs.configurations.is_broken_at.Goals as goal

pub truth-requires : goal.truth-requires
truth-requires c = record { node = c.requires.node; symbols = tile_below c.args.rule.now c.args.periodic.now c.requires.fits }

pub unreachable-requires : goal.unreachable-requires
unreachable-requires c =
    let told = origin_told c.args.rule.now c.args.periodic.now c.args.node c.truth.result c.truth.ensures.kept c.requires.fits
    c.symbols-symbols.ensures.kept c.requires.node c.truth.ensures.value in
    let is = c.in-None.is in
    absurd (cc)
