use Rattle.std.proofs.{Common.sym, Common.◌∙◌, lemmas.Bool.false≢true}
use Rattle.dd_verify.proofs.Deciding.{nothing_holds}
use Rattle.dd_verify.proofs.numbers.are_denominators.Goals as goal

pub returns-then-not-is_denominator : goal.returns-then-not-is_denominator
returns-then-not-is_denominator c = nothing_holds _ (λ w. false≢true (sym c.if-not-is_denominator.true ∙ c.is_denominator.ensures.1 w.0))

pub returns : goal.returns
returns c = (
  λ h. (c.is_denominator.ensures.0 c.if-not-is_denominator.false, c.is_denominator-2.ensures.0 h),
  λ w. c.is_denominator-2.ensures.1 w.1,
)
