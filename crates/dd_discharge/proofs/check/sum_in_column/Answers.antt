use Rattle.std.proofs.Common.{◌≡◌, ◌+◌, ◌*◌, ℕ, ℤ, pos, ◌+ℤ◌, ◌-ℤ◌, ◌*ℤ◌, ◌≤ℤ◌, slice_index, slice_index_or, List, ◌<◌, ◌≤◌, length, unsigned_abs, to_z, of_z, sym, ap, subst, ◌∙◌, arith, rules}
use Rattle.std.specs.Int.{w128, w64}
use mir.Val.{SFits}
use lib.IntN.{*ℤ_comm}
use Rattle.std.proofs.lemmas.Int.{ints, to_z-of_z}
use Rattle.dd_rows.specs.declared.rows.Row.{Row}
use Rattle.dd_discharge.specs.Amounts.{total_below, coefficient_in, row_in}
use Rattle.dd_discharge.specs.lemmas.Totals.{total_more, unit_fits, sum_fits}
use Rattle.dd_discharge.proofs.Tabulated.{row_is}
use Rattle.dd_discharge.proofs.check.sum_in_column.Goals as goal

pub loop-k-preserved : goal.loop-k-preserved
loop-k-preserved c =
    let rows = c.args.rows.now in
    let k = c.loop-k.k in
    let j = c.args.column in
    let f : ℕ → ℤ = λ k. pos (slice_index c.args.duals.now k) *ℤ coefficient_in rows k j in
    let row = sym c.index-rows-k.is ∙ row_is rows k c.index-rows-k.result c.loop-k-test.true c.index-rows-k.is in
    let a = slice_index_or c.as_slice.result.now j (pos 0) in
    let is : a ≡ coefficient_in rows k j = ap (λ (zs : List ℤ). slice_index_or zs j (pos 0)) c.as_slice.ensures ∙ ap (λ (r : Row). slice_index_or r.coefficients j (pos 0)) row in
    let wide = c.requires.rows.sizes k c.loop-k-test.true in
    let inside : j < length (row_in rows k).coefficients = omega (arith, wide) in
    let small = c.requires.rows.units k c.loop-k-test.true j (pos 0) inside in
    let unit : unsigned_abs a ≤ 1 = subst (λ (z : ℤ). unsigned_abs z ≤ 1) (sym is) small in
    let fits : SFits w128 c.term-sum.result = search rules in
    let read : SFits w64 a = unit_fits a unit in
    let same = to_z-of_z w128 c.term-sum.result fits in
    let part : to_z w128 (of_z w128 c.term-sum.result) ≡ f k =
    same ∙ (c.term-sum.ensures.value ∙ (ap (λ (z : ℤ). z *ℤ pos (slice_index c.args.duals.now k)) (to_z-of_z w64 a read ∙ is) ∙ *ℤ_comm (coefficient_in rows k j) (pos (slice_index c.args.duals.now k)))) in
    let low = c.loop-k.invariant.low in
    let high = c.loop-k.invariant.high in
    let bottom = c.term-sum.ensures.low in
    let top = c.term-sum.ensures.high in
    let few = c.requires.rows.few in
    let all = sum_fits (to_z w128 c.loop-k.sum-bits) (to_z w128 (of_z w128 c.term-sum.result)) k (omega (arith, few)) low high (omega (arith, ints, same, bottom)) (omega (arith, ints, same, top)) in
    record {
      sum = to_z-of_z w128 (to_z w128 c.loop-k.sum-bits +ℤ to_z w128 (of_z w128 c.term-sum.result)) all ∙ total_more f k (to_z w128 c.loop-k.sum-bits) (to_z w128 (of_z w128 c.term-sum.result)) c.loop-k.invariant.sum part;
      low = omega (arith, ints);
      high = omega (arith, ints);
    }
