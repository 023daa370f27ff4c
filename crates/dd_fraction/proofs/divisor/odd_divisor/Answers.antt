use Rattle.std.proofs.Common.{◌≡◌, sym, ap, ◌∙◌, arith}
use Rattle.dd_fraction.specs.{Divisor.greatest_common, lemmas.Divisors.greatest_common-zero}
use Rattle.dd_fraction.proofs.OddDivisors.{greatest_common-less, greatest_common-swap}
use Rattle.dd_fraction.proofs.divisor.odd_divisor.Goals as goal

pub loop-y-preserved-then-odd-x : goal.loop-y-preserved-then-odd-x
loop-y-preserved-then-odd-x c =
    let x = c.loop-y.x in
    let odd = c.without_twos-odd.result in
    let same = c.without_twos-odd.ensures.same x c.loop-y.invariant.odd in
    record {
      odd = c.without_twos-odd.ensures.odd;
      same = greatest_common-less odd x (omega arith) ∙ (greatest_common-swap odd x ∙ (sym same ∙ c.loop-y.invariant.same));
    }

pub loop-y-preserved : goal.loop-y-preserved
loop-y-preserved c =
    let x = c.loop-y.x in
    let odd = c.without_twos-odd.result in
    let same = c.without_twos-odd.ensures.same x c.loop-y.invariant.odd in
    record {
      odd = c.loop-y.invariant.odd;
      same = greatest_common-less x odd (omega arith) ∙ (sym same ∙ c.loop-y.invariant.same);
    }

pub returns : goal.returns
returns c =
    let e : c.loop-y.y ≡ 0 = omega arith in
    sym (greatest_common-zero c.loop-y.x) ∙ (ap (greatest_common c.loop-y.x) (sym e) ∙ c.loop-y.invariant.same)
