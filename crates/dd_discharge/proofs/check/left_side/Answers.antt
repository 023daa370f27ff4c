use Rattle.std.proofs.Common.{◌≡◌, ◌+◌, ◌*◌, ℕ, ℤ, pos, ◌+ℤ◌, ◌-ℤ◌, ◌*ℤ◌, ◌≤ℤ◌, slice_index_or, to_z, of_z, sym, ap, ◌∙◌, arith, rules}
use Rattle.std.specs.Int.{w128, w64}
use mir.Val.{SFits}
use Rattle.std.proofs.lemmas.Int.{ints, to_z-of_z}
use Rattle.dd_discharge.specs.Amounts.{total_below, column_value}
use Rattle.dd_discharge.specs.lemmas.Totals.{total_more, unit_fits, sum_fits}
use Rattle.dd_discharge.proofs.check.left_side.Goals as goal

pub loop-j-preserved : goal.loop-j-preserved
loop-j-preserved c =
    let f : ℕ → ℤ = λ j. slice_index_or c.args.coefficients.now j (pos 0) *ℤ column_value (pos c.args.held) c.args.amounts.now j in
    let a = slice_index_or c.args.coefficients.now c.loop-j.j (pos 0) in
    let unit = c.requires.units c.loop-j.j (pos 0) c.loop-j-test.true in
    let fits : SFits w128 c.term-sum.result = search rules in
    let read : SFits w64 a = unit_fits a unit in
    let part : to_z w128 (of_z w128 c.term-sum.result) ≡ f c.loop-j.j =
    to_z-of_z w128 c.term-sum.result fits ∙ (c.term-sum.ensures.value ∙ (λ i. to_z-of_z w64 a read i *ℤ c.value_of.ensures.value i)) in
    let low = c.loop-j.invariant.low in
    let high = c.loop-j.invariant.high in
    let same = to_z-of_z w128 c.term-sum.result fits in
    let bottom = c.term-sum.ensures.low in
    let top = c.term-sum.ensures.high in
    let few = c.requires.narrow in
    let all = sum_fits (to_z w128 c.loop-j.sum-bits) (to_z w128 (of_z w128 c.term-sum.result)) c.loop-j.j (omega (arith, few)) low high (omega (arith, ints, same, bottom)) (omega (arith, ints, same, top)) in
    record {
      sum = to_z-of_z w128 (to_z w128 c.loop-j.sum-bits +ℤ to_z w128 (of_z w128 c.term-sum.result)) all ∙ total_more f c.loop-j.j (to_z w128 c.loop-j.sum-bits) (to_z w128 (of_z w128 c.term-sum.result)) c.loop-j.invariant.sum part;
      low = omega (arith, ints);
      high = omega (arith, ints);
    }
