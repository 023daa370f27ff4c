use Rattle.std.proofs.{Common.sym, Common.◌∙◌, lemmas.Bool.false≢true}
use Rattle.dd_verify.proofs.Deciding.{nothing_holds}
use Rattle.dd_verify.proofs.densities.is_writable.Goals as goal

pub returns-then-not-is_number : goal.returns-then-not-is_number
returns-then-not-is_number c = nothing_holds _ (λ w. false≢true (sym c.if-not-is_number.true ∙ c.is_number.ensures.1 w.0))

pub returns-then-not-is_denominator : goal.returns-then-not-is_denominator
returns-then-not-is_denominator c = nothing_holds _ (λ w. false≢true (sym c.if-not-is_denominator.true ∙ c.is_denominator.ensures.1 w.1))

pub returns-then-not-has_writable_length : goal.returns-then-not-has_writable_length
returns-then-not-has_writable_length c = nothing_holds _ (λ w. false≢true (sym c.if-not-has_writable_length.true ∙ c.has_writable_length.ensures.1 w.2))

pub returns-then-not-is_list : goal.returns-then-not-is_list
returns-then-not-is_list c = nothing_holds _ (λ w. false≢true (sym c.if-not-is_list.true ∙ c.is_list.ensures.1 w.3))

pub returns : goal.returns
returns c = (
  λ h.
      (let signed = c.is_signed_list.ensures.0 h in (
        c.is_number.ensures.0 c.if-not-is_number.false,
        c.is_denominator.ensures.0 c.if-not-is_denominator.false,
        c.has_writable_length.ensures.0 c.if-not-has_writable_length.false,
        c.is_list.ensures.0 c.if-not-is_list.false,
        signed.0,
        signed.1,
      )),
  λ w. c.is_signed_list.ensures.1 (w.4, w.5),
)
