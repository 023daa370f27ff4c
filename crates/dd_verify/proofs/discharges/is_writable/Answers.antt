use Rattle.std.proofs.{Common.sym, Common.◌∙◌, lemmas.Bool.false≢true}
use Rattle.dd_verify.proofs.Deciding.{nothing_holds}
use Rattle.dd_verify.proofs.discharges.is_writable.Goals as goal

pub returns-then-not-is_number : goal.returns-then-not-is_number
returns-then-not-is_number c = nothing_holds _ (λ w. false≢true (sym c.if-not-is_number.true ∙ c.is_number.ensures.1 w.0))

pub returns-then-not-are_denominators : goal.returns-then-not-are_denominators
returns-then-not-are_denominators c = nothing_holds _ (λ w. false≢true (sym c.if-not-are_denominators.true ∙ c.are_denominators.ensures.1 (w.1, w.2)))

pub returns-then-not-are_numbers : goal.returns-then-not-are_numbers
returns-then-not-are_numbers c = nothing_holds _ (λ w. false≢true (sym c.if-not-are_numbers.true ∙ c.are_numbers.ensures.1 w.3))

pub returns : goal.returns
returns c =
    let both = c.are_denominators.ensures.0 c.if-not-are_denominators.false in (
      λ h. (
        c.is_number.ensures.0 c.if-not-is_number.false,
        both.0,
        both.1,
        c.are_numbers.ensures.0 c.if-not-are_numbers.false,
        c.is_list.ensures.0 h,
      ),
      λ w. c.is_list.ensures.1 w.4,
    )
