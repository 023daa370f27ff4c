use Rattle.std.proofs.{Common.sym, Common.◌∙◌, lemmas.Bool.false≢true}
use Rattle.dd_verify.proofs.Deciding.{nothing_holds}
use Rattle.dd_verify.proofs.configurations.check_periodic.Goals as goal

pub returns-then-not-inhabits : goal.returns-then-not-inhabits
returns-then-not-inhabits c = nothing_holds _ (λ w. false≢true (sym c.if-not-inhabits.true ∙ c.inhabits.ensures.1 (w.allowed, w.lives)))

pub returns : goal.returns
returns c =
    let both = c.inhabits.ensures.0 c.if-not-inhabits.false in (
      λ h. record { tile = c.symbols-symbols.ensures.kept.tile; fits = c.requires.fits; allowed = both.0; lives = both.1; goal = c.is_broken.ensures.0 h },
      λ w. c.is_broken.ensures.1 w.goal,
    )
