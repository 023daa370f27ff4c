use Rattle.std.proofs.Common.{◌≡◌, sym, ◌∙◌, arith, ap}
use Rattle.dd_fraction.specs.{Divisor.greatest_common, lemmas.Divisors.greatest_common-zero, lemmas.Divisors.greatest_common-step}
use Rattle.dd_fraction.proofs.divisor.greatest_common_divisor.Goals as goal

pub loop-y-preserved : goal.loop-y-preserved
loop-y-preserved c = sym (greatest_common-step c.loop-y.x c.loop-y.y (omega arith)) ∙ c.loop-y.invariant

pub returns-then-y-eq0 : goal.returns-then-y-eq0
returns-then-y-eq0 c =
    let e : c.loop-y.y ≡ 0 = omega arith in
    sym (greatest_common-zero c.loop-y.x) ∙ ap (greatest_common c.loop-y.x) (sym e) ∙ c.loop-y.invariant

pub returns : goal.returns
returns c =
    c.word_divisor-2.ensures ∙ (sym (greatest_common-step c.loop-y.x c.loop-y.y (omega arith)) ∙ c.loop-y.invariant)
