use Rattle.std.proofs.{Common.sym, Common.◌∙◌, lemmas.Bool.false≢true}
use Rattle.dd_verify.proofs.Deciding.{nothing_holds}
use Rattle.dd_verify.proofs.configurations.inhabits.Goals as goal

pub returns-then-not-has_allowed : goal.returns-then-not-has_allowed
returns-then-not-has_allowed c = nothing_holds _ (λ both. false≢true (sym c.if-not-has_allowed.true ∙ c.has_allowed.ensures.1 both.0))

pub returns : goal.returns
returns c =
    let allowed = c.has_allowed.ensures.0 c.if-not-has_allowed.false in
    (λ h. (allowed, c.lives.ensures.0 h), λ both. c.lives.ensures.1 both.1)
