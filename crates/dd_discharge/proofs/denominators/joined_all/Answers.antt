use Rattle.std.proofs.Common.{◌≡◌, ◌<◌, ◌≤◌, ◌+◌, ap, subst, sym, ◌∙◌, length, drop, refl, ℕ, arith}
use Rattle.std.specs.List.{fold}
use Rattle.dd_values.specs.Bounds.{most_number}
use Rattle.dd_fraction.specs.{Exact.Exact, Exact.den_of, lemmas.OrderLaws.den_above}
use Rattle.dd_discharge.specs.Denominators.{joined_denominator, printed}
use Rattle.dd_discharge.proofs.Multiples.{printed_is, joined_more, joined_past, joined_whole, least_common_above}
use Rattle.dd_discharge.proofs.denominators.joined_all.Goals as goal

pub returns-in_err-common : goal.returns-in_err-common
returns-in_err-common c =
    let i = c.loop-fraction.invariant in
    c.from_residual.ensures ∙ joined_past c.args.common c.loop-fraction.common c.loop-fraction.fraction-index c.args.fractions.now c.fraction-item.result
    i.above c.loop-fraction-test.true c.fraction-item.is i.same (sym c.in_err-common.was ∙ c.joined.ensures)

pub loop-fraction-preserved : goal.loop-fraction-preserved
loop-fraction-preserved c =
    let i = c.loop-fraction.invariant in
    let x = c.fraction-item.result in
    let is = printed_is (joined_denominator c.loop-fraction.common x) c.in_ok-common.common (sym c.in_ok-common.was ∙ c.joined.ensures) in
    let more = joined_more c.args.common c.loop-fraction.common c.loop-fraction.fraction-index c.args.fractions.now x c.loop-fraction-test.true c.fraction-item.is i.same in
    record {
      above = subst (λ (n : ℕ). 0 < n) (sym is.0) (least_common_above c.loop-fraction.common (den_of x) i.above (den_above x));
      below = subst (λ (n : ℕ). n ≤ most_number) (sym is.0) is.1;
      same = more ∙ ap (λ (n : ℕ). fold joined_denominator n (drop (c.loop-fraction.fraction-index + 1) c.args.fractions.now)) (sym is.0);
    }

pub returns : goal.returns
returns c =
    let i = c.loop-fraction.invariant in
    let end : c.loop-fraction.fraction-index ≡ length c.args.fractions.now = omega arith in
    joined_whole c.args.common c.loop-fraction.common c.args.fractions.now i.below
    (i.same ∙ ap (λ (k : ℕ). fold joined_denominator c.loop-fraction.common (drop k c.args.fractions.now)) end)
